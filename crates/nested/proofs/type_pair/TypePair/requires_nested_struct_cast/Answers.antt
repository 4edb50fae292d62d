use Rattle.std.proofs.Common.{◌≡◌, ◌<◌, sym, ◌∙◌, arith}
use Rattle.rules.specs.Findings.{is_nested_cast}
use Rattle.sheet.specs.SheetExpressions.{type_at_place}
use Rattle.sheet.proofs.Sheets.{few_types}
use Rattle.sheet.proofs.Readers.{type_span}
use Rattle.nested.proofs.PairViews.{AreStructs, AreLists, AreOthers, are, cast_items, cast_structs}
use Rattle.nested.proofs.Placed.{placed, pair_placed}
use Rattle.nested.proofs.type_pair.TypePair.requires_nested_struct_cast.Goals as goal
use Rattle.nested.proofs.type_pair.TypePair.requires_nested_struct_cast.Goals.{In-Structs, In-Lists, In-Others}

structs : (c : In-Structs) → AreStructs c.loop-pair.pair.sheet.now c.loop-pair.pair.place c.loop-pair.pair.goal
structs c = let l = c.loop-pair.pair in are l.sheet.now l.place l.goal l.here l.there c.in-Structs.ensures

lists : (c : In-Lists) → AreLists c.loop-pair.pair.sheet.now c.loop-pair.pair.place c.loop-pair.pair.goal
lists c = let l = c.loop-pair.pair in are l.sheet.now l.place l.goal l.here l.there c.in-Lists.ensures

others : (c : In-Others) → AreOthers c.loop-pair.pair.sheet.now c.loop-pair.pair.place c.loop-pair.pair.goal
others c = let l = c.loop-pair.pair in are l.sheet.now l.place l.goal l.here l.there c.in-Others.ensures

pub returns-in-Structs : goal.returns-in-Structs
returns-in-Structs c =
    let l = c.loop-pair.pair in
    cast_structs l.sheet.now l.place l.goal l.here l.there (structs c) ∙ sym c.loop-pair.invariant

pub returns-in-Others : goal.returns-in-Others
returns-in-Others c = sym (c.loop-pair.invariant ∙ (others c).cast)

pub overflow_add-pair : goal.overflow_add-pair
overflow_add-pair c = omega (arith, few_types c.loop-pair.pair.sheet.now, c.loop-pair.pair.here)

pub overflow_add-pair-in-Lists : goal.overflow_add-pair-in-Lists
overflow_add-pair-in-Lists c = omega (arith, few_types c.loop-pair.pair.sheet.now, c.loop-pair.pair.there)

pub of-pair-requires : goal.of-pair-requires
of-pair-requires c = record { here = (lists c).item; there = (lists c).goal }

pub loop-pair-smaller : goal.loop-pair-smaller
loop-pair-smaller c =
    let l = c.loop-pair.pair in
    let i = lists (goal.at.loop-pair-smaller c).In-Lists in
    placed (λ s q. type_span s q < type_span l.sheet.now l.place) c.of-pair.ensures.sheet c.of-pair.ensures.place (omega (arith, i.span))

pub loop-pair-preserved : goal.loop-pair-preserved
loop-pair-preserved c =
    let l = c.loop-pair.pair in
    let i = lists (goal.at.loop-pair-preserved c).In-Lists in
    let was = c.args.self in
    pair_placed (λ s p g. is_nested_cast (type_at_place was.sheet.now was.place) (type_at_place was.sheet.now was.goal) ≡ is_nested_cast (type_at_place s p) (type_at_place s g)) c.of-pair.ensures.sheet c.of-pair.ensures.place c.of-pair.ensures.goal
    (c.loop-pair.invariant ∙ cast_items l.sheet.now l.place l.goal l.here l.there i)
