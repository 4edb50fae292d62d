use Rattle.planner.specs.ReadPlans.{uses_reading}
use Rattle.planner.proofs.Planning.{Planning}
use Rattle.planner.proofs.assemble.build_read_plan.Given as goal

abbrev pub invariant-loop-root : goal.invariant-loop-root
invariant-loop-root g l =
    let ls = g.D.LeafDirectory.leaves l.directory in
    Planning l.sheet ls (uses_reading l.sheet ls l.uses) l.root l.first l.plan.leaves l.plan.fields l.plan.types l.leaves l.fields
