use Rattle.std.proofs.Common.{◌≡◌, ◌-◌, length, sym, ap, ◌∙◌, arith}
use Rattle.rules.specs.Preorder.{placed}
use Rattle.rules.specs.Searches.{first_failing, earlier}
use Rattle.rules.proofs.Searches.{first_of_both}
use Rattle.format.specs.Good.{fair_at}
use Rattle.format.specs.Records.{by_place}
use Rattle.format.proofs.opening.first_bad_nested.Goals as goal

pub returns : goal.returns
returns g c =
    let rs = c.args.records.now in
    let blank = g.R.Record.blank in
    let all : length rs - 0 ≡ length rs = omega arith in
    let fair = fair_at (g.R.Checked.fair c.args.layout) blank rs in
    c.earlier.ensures ∙ (λ k. earlier ((c.first_unfair.ensures ∙ ap (first_failing fair 0) all) k) (c.first_misplaced.ensures k))
    ∙ sym (first_of_both fair (placed (by_place g.R.Preorder.kids blank rs) (by_place g.R.Preorder.reach blank rs) (length rs) 32) (length rs) 0)
