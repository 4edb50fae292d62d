use Rattle.std.proofs.Common.{ap, ◌∙◌, rules, tests}
use Rattle.access.specs.Following.{left, is_on}
use Rattle.access.proofs.Follows.{all_on}
use Rattle.access.proofs.paths.on_root.Goals as goal

pub returns : goal.returns
returns c =
    let s = c.args.sheet.now in
    ap (left s 0) (c.gather.ensures (is_on s c.args.root) (λ x b k. search (rules, tests))) ∙ all_on s c.args.root c.args.accesses.now
