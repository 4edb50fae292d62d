use Rattle.std.proofs.Common.{rules, tests, ◌∙◌}
use Rattle.std.proofs.lemmas.Iterator.{YieldsList-from_slice}
use Rattle.std.proofs.lemmas.Iterator.Search.{any_from_yields_List}
use Rattle.access.specs.Following.{is_on}
use Rattle.access.proofs.Follows.{any_on}
use Rattle.access.proofs.prune.has_access.Goals as goal

pub returns : goal.returns
returns c =
    let s = c.args.sheet.now in
    let xs = c.args.accesses.now in
    any_from_yields_List (is_on s c.args.root) _ _ _ c.any.ensures.ran (YieldsList-from_slice xs cc) (λ x b q k. search (rules, tests)) ∙ any_on s c.args.root xs
