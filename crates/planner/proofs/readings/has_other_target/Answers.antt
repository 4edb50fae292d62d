use Rattle.std.proofs.Common.{rules, tests, ◌∙◌}
use Rattle.std.proofs.lemmas.Iterator.{YieldsList-from_slice}
use Rattle.std.proofs.lemmas.Iterator.Search.{any_from_yields_List}
use Rattle.planner.specs.Targets.{is_unlike}
use Rattle.planner.proofs.Targeting.{any_unlike}
use Rattle.planner.proofs.readings.has_other_target.Goals as goal

pub returns : goal.returns
returns c =
    let s = c.args.goal.sheet.now in
    let p = c.args.goal.place in
    any_from_yields_List (is_unlike s p c.args.used.root) _ _ _ c.any.ensures.ran (YieldsList-from_slice c.args.used.uses.casts.now cc) (λ x b q k. search (rules, tests)) ∙ any_unlike s c.args.used.root p c.args.used.uses.casts.now
