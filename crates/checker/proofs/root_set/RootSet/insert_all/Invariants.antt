use Rattle.std.proofs.Common.{◌≡◌, ℕ, false, ◌||◌, get_or, drop}
use Rattle.rules.specs.RootPlan.{is_listed}
use Rattle.checker.proofs.root_set.RootSet.insert_all.Given as goal

-- The flags that were set and the roots that are left to set come to the same at every turn.
abbrev pub invariant-loop-root : goal.invariant-loop-root
invariant-loop-root l =
    (j : ℕ) → (get_or l.self.flags j false || is_listed (drop l.root-index l.root-items) j) ≡ (get_or l.initial.self.flags j false || is_listed l.root-items j)
