-- The leaves that the elements of a sheet flatten. Assumes nothing.
use Rattle.std.specs.Prelude.{◌≡◌, ℕ, zero, suc, ◌+◌, ◌≤◌, List, [], ◌∷◌, ◌++◌, Some, None, Option, slice_index, slice_index_or}
use Rattle.std.proofs.Common.{sym, subst, append_assoc, arith}
use Rattle.rules.specs.Leaves.{Leaf, roots, NeverFalls, by_children, leaves_under, leaves_among, leaves_of_roots, flattened}
use Rattle.rules.specs.Names.{Name}
use Rattle.rules.specs.Trees.{Tree, node, Forest, none, more}
use Rattle.format.specs.declared.records.ElementRecord.{ElementRecord}
use Rattle.format.specs.Records.{name_bytes}
use Rattle.sheet.specs.declared.sheet.Sheet.{Sheet}
use Rattle.sheet.specs.Seen.{names_in}
use Rattle.sheet.specs.SheetTrees.{element_tree}

abbrev pub element_name : Sheet → ElementRecord → Name
element_name s e = name_bytes (names_in s) e.name

abbrev pub leaves_of_tree : Sheet → Option (Tree ElementRecord) → List Leaf
leaves_of_tree s None = []
leaves_of_tree s (Some t) = flattened (element_name s) t

-- the leaves of the tree of elements, and none where there are no elements
abbrev pub flattened_leaves : Sheet → List Leaf
flattened_leaves s = leaves_of_tree s (element_tree s)

-- the roots rise from k on
abbrev Up : ℕ → List Leaf → Type 0
Up k [] = Unit {0}
Up k (l ∷ ls) = (k ≤ l.root) × Up l.root ls

up_from : (j k : ℕ) (ls : List Leaf) → j ≤ k → Up k ls → Up j ls
up_from j k [] h up = tt
up_from j k (l ∷ ls) h up = (omega (arith, up.0), up.1)

never : (k : ℕ) (ls : List Leaf) → Up k ls → NeverFalls (roots ls)
never k [] up i h = absurd (omega arith)
never k (l ∷ []) up i h = absurd (omega arith)
never k (l ∷ m ∷ ls) up zero h = up.1.0
never k (l ∷ m ∷ ls) up (suc i) h =
    let e : suc i + 1 ≡ suc (i + 1) = omega arith in
    let rest : slice_index_or (roots (m ∷ ls)) i 0 ≤ slice_index_or (roots (m ∷ ls)) (i + 1) 0 = never l.root (m ∷ ls) up.1 i (omega arith) in
    subst (λ n. slice_index (roots (m ∷ ls)) i ≤ slice_index (roots (l ∷ m ∷ ls)) n) (sym e) rest

module _ {A : Type 0} (name_of : A → Name) where
  either : (P : List Leaf → Type 0) (f : Forest A) (x y : List Leaf) → P x → P y → P (by_children name_of f x y)
  either P none x y p q = p
  either P (more t f) x y p q = q

  mutual
    under : (r : ℕ) (path : List Name) (t : Tree A) (rest : List Leaf) → Up r rest → Up r (leaves_under name_of r path t ++ rest)
    under r path (node e f) rest up =
        either (λ w. Up r (w ++ rest)) f (record { root = r; parts = path ++ name_of e ∷ [] } ∷ []) (leaves_among name_of r (path ++ name_of e ∷ []) f)
        (omega arith, up) (among r (path ++ name_of e ∷ []) f rest up)

    among : (r : ℕ) (path : List Name) (f : Forest A) (rest : List Leaf) → Up r rest → Up r (leaves_among name_of r path f ++ rest)
    among r path none rest up = up
    among r path (more t f) rest up =
        subst (Up r) (sym (append_assoc (leaves_under name_of r path t) (leaves_among name_of r path f) rest)) (under r path t (leaves_among name_of r path f ++ rest) (among r path f rest up))

  from : (k : ℕ) (f : Forest A) → Up k (leaves_of_roots name_of k f)
  from k none = tt
  from k (more t f) = under k [] t (leaves_of_roots name_of (k + 1) f) (up_from k (k + 1) (leaves_of_roots name_of (k + 1) f) (omega arith) (from (k + 1) f))

tree_never_falls : (s : Sheet) (o : Option (Tree ElementRecord)) → NeverFalls (roots (leaves_of_tree s o))
tree_never_falls s None = never 0 [] tt
tree_never_falls s (Some (node top f)) = never 0 (leaves_of_roots (element_name s) 0 f) (from (element_name s) 0 f)

pub flattened_never_fall : (s : Sheet) → NeverFalls (roots (flattened_leaves s))
flattened_never_fall s = tree_never_falls s (element_tree s)
