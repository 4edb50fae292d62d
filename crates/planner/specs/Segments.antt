-- Leaves that stand one behind the other. Assumes nothing.
use Rattle.std.specs.Prelude.{◌≡◌, ℕ, ◌-◌, ◌<◌, ◌≤◌, List, [], map, length, get_or, ◌≢◌, slice_index_or}
use Rattle.std.specs.List.{range_with_len}
use Rattle.rules.specs.Leaves.{Leaf}
use Rattle.rules.specs.Names.{Name}

abbrev pub no_leaf : Leaf
no_leaf = record { root = 0; parts = [] }

-- the leaves from number a up to e, each with its number
abbrev pub segment : List Leaf → ℕ → ℕ → List (ℕ × Leaf)
segment ls a e = map (λ i. (i, slice_index_or ls i no_leaf)) (range_with_len a (e - a))

-- the parts of a leaf
abbrev pub parts_of : List Leaf → ℕ → List Name
parts_of ls i = (get_or ls i no_leaf).parts

abbrev pub root_of : List Leaf → ℕ → ℕ
root_of ls i = (get_or ls i no_leaf).root

-- the leaves from `leaf` up to `end` have the root j, and the one at `end`, if there is one, has another
pub record Run (ls : List Leaf) (j leaf end : ℕ) : Type 0 where
  pub forth : leaf ≤ end
  pub within : end ≤ length ls
  pub own : (i : ℕ) → leaf ≤ i → i < end → root_of ls i ≡ j
  pub over : end < length ls → root_of ls end ≢ j
