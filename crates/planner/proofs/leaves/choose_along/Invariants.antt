use Rattle.std.proofs.Common.{◌≡◌, ◌-◌, ◌≤◌, ◌++◌, take}
use Rattle.rules.specs.ReadPlan.{on}
use Rattle.access.specs.Accesses.{accesses_in}
use Rattle.planner.proofs.Along.{left}
use Rattle.planner.proofs.leaves.choose_along.Given as goal

abbrev pub invariant-loop-leaf : goal.invariant-loop-leaf
invariant-loop-leaf g l =
    let ls = g.D.LeafDirectory.leaves l.directory in
    let ps = on l.used.root (accesses_in l.sheet l.used.uses.accesses.now) in
    record {
      few : l.chosen ≤ l.leaf - l.fn.leaves.first;
      whole : take l.chosen l.mask ++ left ls ps l.fn.leaves.end l.leaf ≡ left ls ps l.fn.leaves.end l.fn.leaves.first;
    }
