use Rattle.std.proofs.Common.{◌≡◌, ◌+◌, ◌*◌, ◌<◌, ◌≤◌, drop}
use Rattle.rules.specs.Trees.{forest, first_tree}
use Rattle.format.specs.Good.{whole_end}
use Rattle.format.proofs.Passes.{ending}
use Rattle.format.proofs.elements.tree_end.Given as goal

abbrev pub invariant-loop-place : goal.invariant-loop-place
invariant-loop-place l =
    (0 < l.pending) × (l.pending ≤ 1 + 65535 * l.place)
    × (whole_end (first_tree (forest (λ e. e.children) l.elements)) ≡ ending l.place l.pending (forest (λ e. e.children) (drop l.place l.elements)))
