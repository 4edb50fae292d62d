-- Leaves, the questions that a leaf directory answers, and Parquet's flattened schema. Assumes nothing.
use Rattle.std.specs.Prelude.{ℕ, ◌+◌, ◌<◌, ◌≤◌, Bool, List, [], ◌∷◌, ◌++◌, map, length, Some, None, Option, slice_index}
use Rattle.std.specs.Option.{option_map}
use Rattle.std.specs.List.{slice_get}
use Rattle.std.specs.Str.{bytes_eq}
use Rattle.rules.specs.Names.{Name}
use Rattle.rules.specs.Trees.{Tree, node, Forest, none, more}

-- a leaf: the number of its root, and the parts of its path
pub record Leaf : Type 0 where
  pub root : ℕ
  pub parts : List Name

abbrev pub roots : List Leaf → List ℕ
roots ls = map (λ l. l.root) ls

-- the root of the leaf i, and its number of parts; no answer beyond the list
abbrev pub root_at : List Leaf → ℕ → Option ℕ
root_at ls i = option_map (λ l. l.root) (slice_get ls i)

abbrev pub part_count_at : List Leaf → ℕ → Option ℕ
part_count_at ls i = option_map (λ l. length l.parts) (slice_get ls i)

abbrev pub part_of : Option Leaf → ℕ → Option Name
part_of None j = None
part_of (Some l) j = slice_get l.parts j

-- whether part j of the leaf i is `name`; no answer beyond the list, or beyond the leaf's parts
abbrev pub part_is : List Leaf → ℕ → ℕ → Name → Option Bool
part_is ls i j name = option_map (λ part. bytes_eq part name) (part_of (slice_get ls i) j)

-- no number is below the one before it
abbrev pub NeverFalls : List ℕ → Type 0
NeverFalls rs = (i : ℕ) → i + 1 < length rs → slice_index rs i ≤ slice_index rs (i + 1)

-- Parquet's flattened schema. Its elements are a tree; the top stands for the file, the top's children are the roots,
-- and a childless element below the top is a leaf, whose parts are the names from its root's element down to its own.
module _ {A : Type 0} (name_of : A → Name) where
  -- the first list for a childless element, and the second for one with children
  abbrev pub by_children : Forest A → List Leaf → List Leaf → List Leaf
  by_children none itself inner = itself
  by_children (more t f) itself inner = inner

  -- the leaves of an element of a root, where the names in `path` lead to it
  abbrev mutual
    pub leaves_under : ℕ → List Name → Tree A → List Leaf
    leaves_under root path (node e f) =
        by_children f (record { root = root; parts = path ++ name_of e ∷ [] } ∷ []) (leaves_among root (path ++ name_of e ∷ []) f)

    pub leaves_among : ℕ → List Name → Forest A → List Leaf
    leaves_among root path none = []
    leaves_among root path (more t f) = leaves_under root path t ++ leaves_among root path f

  -- the leaves of the roots that are numbered from k on
  abbrev pub leaves_of_roots : ℕ → Forest A → List Leaf
  leaves_of_roots k none = []
  leaves_of_roots k (more t f) = leaves_under k [] t ++ leaves_of_roots (k + 1) f

  abbrev pub flattened : Tree A → List Leaf
  flattened (node top f) = leaves_of_roots 0 f
