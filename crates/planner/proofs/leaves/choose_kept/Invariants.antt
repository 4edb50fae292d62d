use Rattle.std.proofs.Common.{◌≡◌, ◌+◌, map, take}
use Rattle.planner.proofs.leaves.choose_kept.Given as goal

abbrev pub invariant-loop-k : goal.invariant-loop-k
invariant-loop-k l = take l.k l.mask ≡ map (λ o. l.first + o) (take l.k l.offsets)
