use Rattle.std.proofs.Common.{◌≡◌, ◌+◌, ◌<◌, length, ap, ◌∙◌, arith}
use Rattle.rules.specs.Types.{contains_struct}
use Rattle.sheet.specs.Seen.{types_in}
use Rattle.sheet.specs.SheetExpressions.{type_at_place}
use Rattle.sheet.proofs.Sheets.{few_types}
use Rattle.sheet.proofs.Readers.{type_span}
use Rattle.nested.proofs.Placed.{placed}
use Rattle.nested.proofs.Unwrapping.{Item, item}
use Rattle.nested.proofs.nested_schema_pruning.contains_struct.Goals as goal
use Rattle.nested.proofs.nested_schema_pruning.contains_struct.Goals.{After-place}

inner : (c : After-place) → Item c.loop-at.at.sheet.now c.loop-at.at.place
inner c = item c.loop-at.at.sheet.now c.loop-at.at.place c.loop-at.at.there c.kind.result c.kind.ensures c.in_default.not-Leaf c.in_default.not-Struct

pub overflow_add-place : goal.overflow_add-place
overflow_add-place c = omega (arith, few_types c.loop-at.at.sheet.now, c.loop-at.at.there, c.place.ensures)

pub at-at-requires : goal.at-at-requires
at-at-requires c = placed (λ s q. q + 1 < length (types_in s)) c.sheet.ensures c.place.ensures (inner c).there

pub loop-at-smaller : goal.loop-at-smaller
loop-at-smaller c =
    placed (λ s q. type_span s q < type_span c.loop-at.at.sheet.now c.loop-at.at.place) (c.at-at.ensures.sheet ∙ c.sheet.ensures) (c.at-at.ensures.place ∙ ap (λ n. n + 1) c.place.ensures) (inner (goal.at.loop-at-smaller c).After-place).fewer

pub loop-at-preserved : goal.loop-at-preserved
loop-at-preserved c =
    placed (λ s q. contains_struct (type_at_place c.args.here.sheet.now c.args.here.place) ≡ contains_struct (type_at_place s q)) (c.at-at.ensures.sheet ∙ c.sheet.ensures) (c.at-at.ensures.place ∙ ap (λ n. n + 1) c.place.ensures)
    (c.loop-at.invariant ∙ (inner (goal.at.loop-at-preserved c).After-place).same)
