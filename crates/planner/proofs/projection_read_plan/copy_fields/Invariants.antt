use Rattle.planner.proofs.Copied.{Fielded}
use Rattle.planner.proofs.projection_read_plan.copy_fields.Given as goal

abbrev pub invariant-loop-root : goal.invariant-loop-root
invariant-loop-root l = Fielded l.sheet l.roots l.root l.fields l.types l.buffer
