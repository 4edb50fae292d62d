use Rattle.std.proofs.Common.{◌≡◌, ℕ, ◌<◌, ◌≤◌, length, take, get_or}
use Rattle.format.proofs.check.let_go.Given as goal

abbrev pub invariant-loop-end : goal.invariant-loop-end
invariant-loop-end l = (l.ends.items ≡ take (length l.ends.items) l.initial.ends.items) × ((i : ℕ) → length l.ends.items ≤ i → i < length l.initial.ends.items → get_or l.initial.ends.items i 0 ≤ l.place)

abbrev pub decreases-loop-end : goal.decreases-loop-end
decreases-loop-end l = length l.ends.items
