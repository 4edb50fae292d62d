use Rattle.std.proofs.Common.{Bor, rules, tests}
use Rattle.std.proofs.lemmas.Iterator.{YieldsList-from_slice}
use Rattle.std.proofs.lemmas.Iterator.Search.{find_from_yields_List}
use Rattle.access.specs.declared.accesses.CastColumnAccess.{CastColumnAccess}
use Rattle.planner.specs.Targets.{is_cast_on}
use Rattle.planner.proofs.Targeting.{mapped, first_target}
use Rattle.planner.proofs.readings.cast_target.Goals as goal

pub returns : goal.returns
returns c =
    let s = c.args.sheet.now in
    first_target s c.args.used.root c.args.used.uses.casts.now c.find.result c.map.result
    (find_from_yields_List (λ x. is_cast_on s x c.args.used.root) _ _ c.find.result c.find.ensures.ran (YieldsList-from_slice c.args.used.uses.casts.now cc) (λ x b q k. search (rules, tests)))
    (mapped _ (λ (x : Bor CastColumnAccess). x.now.target_type) (λ x y h. search (rules, tests)) c.find.result c.map.result c.map.ensures.cases)
