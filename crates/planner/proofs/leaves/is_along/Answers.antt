use Rattle.std.proofs.Common.{[], ◌∷◌, rules, tests, ◌∙◌}
use Rattle.std.proofs.lemmas.Iterator.{YieldsList-from_slice}
use Rattle.std.proofs.lemmas.Iterator.Search.{any_from_yields_List}
use Rattle.rules.specs.ReadPlan.{is_along, on}
use Rattle.access.specs.Accesses.{accesses_in}
use Rattle.planner.specs.Segments.{parts_of}
use Rattle.planner.proofs.Along.{any_along}
use Rattle.planner.proofs.leaves.is_along.Goals as goal

pub returns : goal.returns
returns g c =
    let s = c.args.sheet.now in
    let parts = parts_of (g.D.LeafDirectory.leaves c.args.directory.now) c.args.leaf in
    any_from_yields_List (λ a. is_along (on c.args.used.root (accesses_in s (a ∷ []))) parts) _ _ _ c.any.ensures.ran (YieldsList-from_slice c.args.used.uses.accesses.now cc) (λ x b q k. search (rules, tests)) ∙ any_along s c.args.used.root parts c.args.used.uses.accesses.now
