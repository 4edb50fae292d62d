use Rattle.std.proofs.Common.{◌≡◌, ℕ, ◌<◌, ◌≤◌, ◌++◌, length, get_or, drop}
use Rattle.checker.specs.Notes.{flagged}
use Rattle.checker.proofs.root_set.RootSet.sorted.Given as goal

-- The numbers of the flags that were seen, and those of the flags that are left, come to the same at every turn.
abbrev pub invariant-loop-root : goal.invariant-loop-root
invariant-loop-root l = record {
  behind : length l.roots.items ≤ l.root;
  low : (k : ℕ) → k < length l.roots.items → get_or l.roots.items k 0 < 256;
  all : l.roots.items ++ flagged l.root (drop l.root l.self.flags) ≡ flagged 0 l.self.flags;
}
