use Rattle.std.proofs.Common.{◌≡◌, ◌+◌, ◌-◌, get_or, ap, ◌∙◌, arith}
use Rattle.directory.proofs.Answered.{up_more}
use Rattle.directory.specs.Rows.{upward}
use Rattle.directory.proofs.flattened.answers.climb.Goals as goal

pub loop-k-preserved : goal.loop-k-preserved
loop-k-preserved c =
    let l = c.loop-k in
    let left = c.args.steps - l._k in
    let one : c.args.steps - (l._k + 1) ≡ left - 1 = omega arith in (
      c.requires.climbs l.at l.invariant.0,
      ap (λ n. upward c.args.parents.now n (get_or c.args.parents.now l.at 0)) one ∙ up_more c.args.parents.now left l.at (omega arith) ∙ l.invariant.1,
    )
