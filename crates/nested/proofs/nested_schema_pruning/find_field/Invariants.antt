use Rattle.nested.proofs.Finding.{Missed}
use Rattle.nested.proofs.nested_schema_pruning.find_field.Given as goal

abbrev pub invariant-loop-child : goal.invariant-loop-child
invariant-loop-child l = Missed l.here l.name l.child-iterator
