-- The leaves that are still to come while the elements are passed. Assumes nothing.
use Rattle.std.proofs.Common.{◌≡◌, ℕ, zero, suc, ◌+◌, ◌-◌, ◌<◌, ◌≤◌, max, Bool, true, false, cond, leb, List, [], ◌∷◌, ◌++◌, map, length, get_or, drop, sym, refl, ap, ◌∙◌, subst, append_assoc, add-one, arith}
use Rattle.std.proofs.lemmas.List.{at_drop_more, map_push}
use Rattle.std.proofs.lemmas.Bool.{leb-true}
use Rattle.rules.specs.Leaves.{Leaf, by_children, leaves_under, leaves_among, leaves_of_roots}
use Rattle.rules.specs.Names.{Name}
use Rattle.rules.specs.Trees.{Tree, node, Forest, none, more, count, depth, depths, first_trees, later_trees, forest}
use Rattle.format.specs.declared.records.ElementRecord.{ElementRecord}
use Rattle.format.specs.Records.{no_element}
use Rattle.sheet.specs.declared.sheet.Sheet.{Sheet}
use Rattle.sheet.specs.Seen.{elements_in}
use Rattle.format.specs.declared.opens.Open.{Open}
use Rattle.format.specs.Opens.{fewer}
use Rattle.directory.specs.declared.flattened.rows.ElementRow.{ElementRow}
use Rattle.directory.specs.Building.{AllOpen}
use Rattle.directory.specs.Flattened.{element_name}
use Rattle.directory.specs.Rows.{chain, name_at, path_to, leaf_of_row}
use Rattle.directory.proofs.ElementTree.{kids, Enough, enough_at}
use Rattle.directory.proofs.OpenElements.{seat_at, with_left}

-- the open elements, and what is to come below them, have no more than 31 levels below the top
abbrev pub Shallow : List (Open ElementRow) → Forest ElementRecord → Type 0
Shallow [] f = depths f ≤ 31
Shallow (o ∷ os) f = (o.told.parts + depths (first_trees o.left f) ≤ 31) × (length os < o.told.parts) × Shallow os (later_trees o.left f)

-- once the next tree is taken
pub record Lower (k : ℕ) (os : List (Open ElementRow)) (t : Tree ElementRecord) (f : Forest ElementRecord) : Type 0 where
  pub tree : (seat_at os k).above + depth t ≤ 31
  pub many : length (fewer os) ≤ (seat_at os k).above
  pub rest : Shallow (fewer os) f

pub lower_next : (e k : ℕ) (os : List (Open ElementRow)) (t : Tree ElementRecord) (f : Forest ElementRecord) → AllOpen e os → Shallow os (more t f) → Lower k os t f
lower_next e k [] t f all h = record { tree = omega arith; many = omega arith; rest = omega arith }
lower_next e k (o ∷ os) t f all h =
    let n = o.left - 1 in
    let is : o.left ≡ suc n = omega (arith, all.0) in
    let low : o.told.parts + max (depth t) (depths (first_trees n f)) ≤ 31 = subst (λ m. o.told.parts + depths (first_trees m (more t f)) ≤ 31) is h.0 in
    let down : Shallow os (later_trees n f) = subst (λ m. Shallow os (later_trees m (more t f))) is h.2 in
    let both = by (leb o.left 1) refl (omega arith) h.1 down in
    record { tree = omega arith; many = both.0; rest = both.1 }
  where
    by : (b : Bool) → leb o.left 1 ≡ b → o.told.parts + depths (first_trees (o.left - 1) f) ≤ 31 → length os < o.told.parts → Shallow os (later_trees (o.left - 1) f)
        → (length (cond b os (with_left o (o.left - 1) ∷ os)) ≤ o.told.parts) × Shallow (cond b os (with_left o (o.left - 1) ∷ os)) f
    by true is x y z = let last : o.left - 1 ≡ 0 = omega (arith, leb-true o.left 1 is) in (omega arith, subst (λ m. Shallow os (later_trees m f)) last z)
    by false is x y z = (omega arith, (x, y, z))

module _ (s : Sheet) where
  abbrev under : ℕ → List Name → Tree ElementRecord → List Leaf
  under = leaves_under (element_name s)

  abbrev among : ℕ → List Name → Forest ElementRecord → List Leaf
  among = leaves_among (element_name s)

  abbrev path : List ℕ → Open ElementRow → List Name
  path ps o = path_to s ps o.told.parts o.told.element

  -- those of the open elements' children, and those of the roots from k on
  abbrev pub coming_leaves : List ℕ → List (Open ElementRow) → ℕ → Forest ElementRecord → List Leaf
  coming_leaves ps [] k f = leaves_of_roots (element_name s) k f
  coming_leaves ps (o ∷ os) k f = among o.told.root (path ps o) (first_trees o.left f) ++ coming_leaves ps os k (later_trees o.left f)

  pub coming_none : (ps : List ℕ) (os : List (Open ElementRow)) (k : ℕ) → coming_leaves ps os k none ≡ []
  coming_none ps [] k = refl
  coming_none ps (o ∷ os) k = by o.left (coming_none ps os k)
    where
      by : (n : ℕ) → coming_leaves ps os k none ≡ [] → among o.told.root (path ps o) (first_trees n none) ++ coming_leaves ps os k (later_trees n none) ≡ []
      by zero h = h
      by (suc n) h = h

  -- the next tree gives its leaves
  next_leaves : (ps : List ℕ) (e k : ℕ) (os : List (Open ElementRow)) (t : Tree ElementRecord) (f : Forest ElementRecord) → AllOpen e os
      → coming_leaves ps os k (more t f) ≡ under (seat_at os k).root (path_to s ps (seat_at os k).above (seat_at os k).parent) t ++ coming_leaves ps (fewer os) (seat_at os k).roots f
  next_leaves ps e k [] t f all = refl
  next_leaves ps e k (o ∷ os) t f all =
      let is : o.left ≡ suc (o.left - 1) = omega (arith, all.0) in
      ap (λ m. among o.told.root (path ps o) (first_trees m (more t f)) ++ coming_leaves ps os k (later_trees m (more t f))) is
      ∙ append_assoc (under o.told.root (path ps o) t) (among o.told.root (path ps o) (first_trees (o.left - 1) f)) (coming_leaves ps os k (later_trees (o.left - 1) f))
      ∙ ap (λ w. under o.told.root (path ps o) t ++ w) (by (leb o.left 1) refl)
    where
      by : (b : Bool) → leb o.left 1 ≡ b
          → among o.told.root (path ps o) (first_trees (o.left - 1) f) ++ coming_leaves ps os k (later_trees (o.left - 1) f) ≡ coming_leaves ps (cond b os (with_left o (o.left - 1) ∷ os)) k f
      by true is = let last : o.left - 1 ≡ 0 = omega (arith, leb-true o.left 1 is) in ap (λ m. among o.told.root (path ps o) (first_trees m f) ++ coming_leaves ps os k (later_trees m f)) last
      by false is = refl

  path_more : (ps : List ℕ) (n e p : ℕ) → get_or ps e 0 ≡ p → path_to s ps (n + 1) e ≡ path_to s ps n p ++ name_at s e ∷ []
  path_more ps n e p is =
      ap (map (name_at s)) (ap (λ m. chain ps m e) (add-one n) ∙ ap (λ q. chain ps n q ++ e ∷ []) is) ∙ map_push (name_at s) (chain ps n p) e

  abbrev pub record_at : ℕ → ElementRecord
  record_at e = get_or (elements_in s) e no_element

  abbrev pub trees_from : ℕ → Forest ElementRecord
  trees_from e = forest kids (drop e (elements_in s))

  abbrev pub tree_from : ℕ → Tree ElementRecord
  tree_from e = node (record_at e) (first_trees (record_at e).children (trees_from (e + 1)))

  abbrev pub trees_after : ℕ → Forest ElementRecord
  trees_after e = later_trees (record_at e).children (trees_from (e + 1))

  pub trees_split : (e : ℕ) → e < length (elements_in s) → trees_from e ≡ more (tree_from e) (trees_after e)
  trees_split e h = at_drop_more (forest kids) (elements_in s) e no_element h

  with_children : (n : ℕ) (f : Forest ElementRecord) (x y : List Leaf) → 0 < n → n ≤ count f → by_children (element_name s) (first_trees n f) x y ≡ y
  with_children zero f x y h le = absurd (omega arith)
  with_children (suc n) none x y h le = absurd (omega arith)
  with_children (suc n) (more t f) x y h le = refl

  module _ (ps : List ℕ) (e k : ℕ) (os : List (Open ElementRow)) (h : e < length (elements_in s)) (all : AllOpen e os) (up : get_or ps e 0 ≡ (seat_at os k).parent) where
    abbrev above : List Name
    above = path_to s ps (seat_at os k).above (seat_at os k).parent

    split : coming_leaves ps os k (trees_from e) ≡ under (seat_at os k).root above (tree_from e) ++ coming_leaves ps (fewer os) (seat_at os k).roots (trees_after e)
    split = ap (coming_leaves ps os k) (trees_split e h) ∙ next_leaves ps e k os (tree_from e) (trees_after e) all

    here : path_to s ps ((seat_at os k).above + 1) e ≡ above ++ name_at s e ∷ []
    here = path_more ps (seat_at os k).above e (seat_at os k).parent up

    -- an element with children is opened
    pub opened : Enough (elements_in s) → 0 < (record_at e).children
        → coming_leaves ps os k (trees_from e) ≡ coming_leaves ps (record { left = (record_at e).children; told = record { element = e; root = (seat_at os k).root; parts = (seat_at os k).above + 1 } } ∷ fewer os) (seat_at os k).roots (trees_from (e + 1))
    opened enough some =
        let root = (seat_at os k).root in
        let c = (record_at e).children in
        let f = trees_from (e + 1) in
        split
        ∙ ap (λ w. w ++ coming_leaves ps (fewer os) (seat_at os k).roots (trees_after e))
        (with_children c f _ (among root (above ++ name_at s e ∷ []) (first_trees c f)) some (enough_at (elements_in s) e h enough) ∙ ap (λ p. among root p (first_trees c f)) (sym here))

    -- a childless one is a leaf
    pub passed : (record_at e).children ≡ 0
        → coming_leaves ps os k (trees_from e) ≡ leaf_of_row s ps (record { element = e; root = (seat_at os k).root; parts = (seat_at os k).above + 1 }) ∷ coming_leaves ps (fewer os) (seat_at os k).roots (trees_from (e + 1))
    passed childless =
        let root = (seat_at os k).root in
        let f = trees_from (e + 1) in
        split
        ∙ ap (λ c. under root above (node (record_at e) (first_trees c f)) ++ coming_leaves ps (fewer os) (seat_at os k).roots (later_trees c f)) childless
        ∙ ap (λ p. record { root = root; parts = p } ∷ coming_leaves ps (fewer os) (seat_at os k).roots f) (sym here)
