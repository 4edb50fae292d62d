use Rattle.std.proofs.Common.{◌≡◌, ◌-◌, true, false, ap, ◌∙◌, rules}
use Rattle.std.proofs.lemmas.Iterator.{first_from_Range}
use Rattle.rules.specs.Searches.{first_failing}
use Rattle.rules.proofs.Searches.{found_first}
use Rattle.format.specs.Good.{fair_at}
use Rattle.format.proofs.check.first_unfair.Goals as goal

pub returns : goal.returns
returns g c =
    let ok = fair_at (g.R.Checked.fair c.args.layout) g.R.Record.blank c.args.records.now in
    let first = first_from_Range _ _ _ c.find.result (λ k. ok k ≡ false) (λ k. ok k ≡ true) c.find.ensures.ran (λ k f e. search rules) (λ k f e. search rules) in
    found_first ok _ _ c.find.result first ∙ ap (λ n. first_failing ok c.args.from (n - c.args.from)) c.count.ensures
