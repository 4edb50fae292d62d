-- How far a walk goes on. Assumes nothing.
use Rattle.std.specs.Prelude.{ℕ}
use Rattle.checker.specs.declared.recursion.TreeNodeRecursion.{TreeNodeRecursion}
use Rattle.checker.specs.declared.recursion.TreeNodeRecursion.TheVariants.{Continue, Jump}

-- to the next place, or past all of the node's
abbrev pub steps_of : TreeNodeRecursion → ℕ → ℕ
steps_of Continue span = 1
steps_of Jump span = span
