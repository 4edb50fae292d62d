use Rattle.std.proofs.Common.{◌≡◌, ◌≤◌, ◌++◌, take, drop}
use Rattle.rules.specs.RootPlan.{leaves_of_listed}
use Rattle.planner.proofs.projection_read_plan.choose_leaves.Given as goal

abbrev pub invariant-loop-leaf : goal.invariant-loop-leaf
invariant-loop-leaf g l =
    let ls = g.D.LeafDirectory.leaves l.directory in
    (l.count ≤ l.leaf) × (take l.count l.mask ++ leaves_of_listed l.roots l.leaf (drop l.leaf ls) ≡ leaves_of_listed l.roots 0 ls)
