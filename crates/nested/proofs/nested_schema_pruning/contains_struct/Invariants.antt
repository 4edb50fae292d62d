use Rattle.std.proofs.Common.{◌≡◌}
use Rattle.rules.specs.Types.{contains_struct}
use Rattle.sheet.specs.SheetExpressions.{type_at_place}
use Rattle.sheet.proofs.Readers.{type_span}
use Rattle.nested.proofs.nested_schema_pruning.contains_struct.Given as goal

abbrev pub invariant-loop-at : goal.invariant-loop-at
invariant-loop-at l = contains_struct (type_at_place l.fn.here.sheet.now l.fn.here.place) ≡ contains_struct (type_at_place l.at.sheet.now l.at.place)

abbrev pub decreases-loop-at : goal.decreases-loop-at
decreases-loop-at l = type_span l.at.sheet.now l.at.place
