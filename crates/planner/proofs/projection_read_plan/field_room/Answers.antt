use Rattle.std.proofs.Common.{refl, ◌∙◌, arith, rules, tests}
use Rattle.std.proofs.lemmas.Iterator.{YieldsList-from_range, YieldsList-from_map}
use Rattle.std.proofs.lemmas.Iterator.Consumers.{YieldsList-at, sum_by_from_yields_List, fits_by_from_yields_list}
use Rattle.std.specs.List.{range_with_len}
use Rattle.planner.specs.RootPlans.{span_of}
use Rattle.planner.proofs.Copied.{spans_all, spans_few}
use Rattle.planner.proofs.projection_read_plan.field_room.Goals as goal

pub sum-requires-clause-fits : goal.sum-requires-clause-fits
sum-requires-clause-fits c =
    let n = c.count.result in
    fits_by_from_yields_list (span_of c.args.sheet.now) (range_with_len 0 n) c.map.result _
    (YieldsList-from_map _ (span_of c.args.sheet.now) (YieldsList-at c.map.ensures.source (YieldsList-from_range 0 n n refl (omega arith))) c.map.ensures.closure (λ x r q k. search (rules, tests)))
    (omega (arith, spans_all c.args.sheet.now n c.count.ensures, spans_few c.args.sheet.now))

pub returns : goal.returns
returns c =
    let n = c.count.result in
    sum_by_from_yields_List (span_of c.args.sheet.now) (range_with_len 0 n) c.map.result c.sum.result c.sum.ensures.ran
    (YieldsList-from_map _ (span_of c.args.sheet.now) (YieldsList-at c.map.ensures.source (YieldsList-from_range 0 n n refl (omega arith))) c.map.ensures.closure (λ x r q k. search (rules, tests)))
    ∙ spans_all c.args.sheet.now n c.count.ensures
