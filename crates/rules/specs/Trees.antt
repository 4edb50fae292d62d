-- Trees, and the tables that they are written down in: preorder records, each with the number of its children.
-- Assumes nothing.
use Rattle.std.specs.Prelude.{◌≡◌, ℕ, zero, suc, ◌+◌, max, Bool, true, ◌&&◌, List, [], ◌∷◌, ◌++◌, Some, None, Option, ◌==◌}

-- a tree is a label and the trees below it, in order
mutual
  pub data Tree (A : Type 0) : Type 0 where
    node : A → Forest A → Tree A

  pub data Forest (A : Type 0) : Type 0 where
    none : Forest A
    more : Tree A → Forest A → Forest A

module _ {A : Type 0} where
  abbrev pub label : Tree A → A
  label (node a f) = a

  abbrev pub below : Tree A → Forest A
  below (node a f) = f

  abbrev pub count : Forest A → ℕ
  count none = 0
  count (more t f) = suc (count f)

  -- the labels, each before those below it
  abbrev mutual
    pub preorder : Tree A → List A
    preorder (node a f) = a ∷ preorders f

    pub preorders : Forest A → List A
    preorders none = []
    preorders (more t f) = preorder t ++ preorders f

  -- how many labels there are
  abbrev mutual
    pub size : Tree A → ℕ
    size (node a f) = suc (sizes f)

    pub sizes : Forest A → ℕ
    sizes none = 0
    sizes (more t f) = size t + sizes f

  -- how many levels there are; the top of a tree is level 1
  abbrev mutual
    pub depth : Tree A → ℕ
    depth (node a f) = suc (depths f)

    pub depths : Forest A → ℕ
    depths none = 0
    depths (more t f) = max (depth t) (depths f)

  -- the level of each label, in preorder, where the top is at the level d
  abbrev mutual
    pub levels : ℕ → Tree A → List ℕ
    levels d (node a f) = d ∷ levels_in (d + 1) f

    pub levels_in : ℕ → Forest A → List ℕ
    levels_in d none = []
    levels_in d (more t f) = levels d t ++ levels_in d f

  abbrev pub first_trees : ℕ → Forest A → Forest A
  first_trees zero f = none
  first_trees (suc n) none = none
  first_trees (suc n) (more t f) = more t (first_trees n f)

  abbrev pub later_trees : ℕ → Forest A → Forest A
  later_trees zero f = f
  later_trees (suc n) none = none
  later_trees (suc n) (more t f) = later_trees n f

  abbrev pub first_tree : Forest A → Option (Tree A)
  first_tree none = None
  first_tree (more t f) = Some t

  module _ (children : A → ℕ) where
    -- the trees that stand in a table one after the other: each record has, of the trees behind it, as many as it has
    -- children below it, or all of them where they are fewer
    abbrev pub forest : List A → Forest A
    forest [] = none
    forest (r ∷ rs) = more (node r (first_trees (children r) (forest rs))) (later_trees (children r) (forest rs))

    -- each record has as many trees below it as it has children
    abbrev mutual
      pub whole : Tree A → Bool
      whole (node r f) = count f == children r && wholes f

      pub wholes : Forest A → Bool
      wholes none = true
      wholes (more t f) = whole t && wholes f

    -- a whole tree that is written down is read back, whatever stands behind it
    abbrev pub WrittenRead : Type 0
    WrittenRead = (t : Tree A) (rest : List A) → whole t ≡ true → forest (preorder t ++ rest) ≡ more t (forest rest)
