-- The elements that are open at a place of a preorder table: those whose children have not all been passed. Assumes
-- nothing.
use Rattle.std.specs.Prelude.{ℕ, ◌-◌, ◌<◌, ◌≤◌, cond, List, [], ◌∷◌, ◌++◌, length, nat_le}
use Rattle.rules.specs.Trees.{Forest, levels_in, first_trees, later_trees}
use Rattle.format.specs.declared.opens.Open.{Open}

-- what stays open once the innermost has one child less to come
abbrev pub fewer : {T : Type 0} → List (Open T) → List (Open T)
fewer [] = []
fewer (o ∷ os) = cond (nat_le o.left 1) os (record { left = o.left - 1; told = o.told } ∷ os)

-- what is told of an open element of the flattened schema is the level of its children; each has children to come, on a
-- level of their own
abbrev pub AllOpen : List (Open ℕ) → Type 0
AllOpen [] = Unit {0}
AllOpen (o ∷ os) = (0 < o.left) × (length os < o.told) × (o.told ≤ 33) × AllOpen os

-- the levels of the elements that are still to come: the children of those that are open, and all below them
abbrev pub coming_levels : {A : Type 0} → List (Open ℕ) → Forest A → List ℕ
coming_levels [] f = []
coming_levels (o ∷ os) f = levels_in o.told (first_trees o.left f) ++ coming_levels os (later_trees o.left f)
