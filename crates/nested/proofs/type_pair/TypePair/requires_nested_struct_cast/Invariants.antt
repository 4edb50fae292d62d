use Rattle.std.proofs.Common.{◌≡◌}
use Rattle.rules.specs.Findings.{is_nested_cast}
use Rattle.sheet.specs.SheetExpressions.{type_at_place}
use Rattle.sheet.proofs.Readers.{type_span}
use Rattle.nested.proofs.type_pair.TypePair.requires_nested_struct_cast.Given as goal

abbrev pub invariant-loop-pair : goal.invariant-loop-pair
invariant-loop-pair l =
    is_nested_cast (type_at_place l.fn.self.sheet.now l.fn.self.place) (type_at_place l.fn.self.sheet.now l.fn.self.goal)
    ≡ is_nested_cast (type_at_place l.pair.sheet.now l.pair.place) (type_at_place l.pair.sheet.now l.pair.goal)

abbrev pub decreases-loop-pair : goal.decreases-loop-pair
decreases-loop-pair l = type_span l.pair.sheet.now l.pair.place
