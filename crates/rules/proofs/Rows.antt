-- Trees side by side in a table whose records are all placed: what the tree at a place is made of, and how a reader goes
-- from tree to tree. Assumes nothing.
use Rattle.std.proofs.Common.{◌≡◌, ℕ, zero, suc, ◌+◌, ◌<◌, ◌≤◌, true, List, length, get_or, drop, unwrap_or, sym, refl, ap, ◌∙◌, subst, arith}
use Rattle.std.proofs.lemmas.List.{drop_more}
use Rattle.std.proofs.lemmas.Bool.{and_parts, and_from, ltb-true, lt-ltb, eqb-true}
use Rattle.rules.specs.Preorder.{fills, placed, tree_at}
use Rattle.rules.specs.Trees.{Tree, node, Forest, none, more, first_tree, first_trees, forest}
use Rattle.rules.proofs.Forests.{join}
use Rattle.rules.proofs.Walks.{fills_forward, placed_parts}
use Rattle.rules.proofs.Spans.{found}

-- n records that start at p and end at e, and then m that end at f
pub fills_join : (s : ℕ → ℕ) (n m p e f : ℕ) → fills s n p e ≡ true → fills s m e f ≡ true → fills s (n + m) p f ≡ true
fills_join s zero m p e f h k =
    let z : 0 + m ≡ m = omega arith in
    let same = eqb-true p e h in
    subst (λ q. fills s q p f ≡ true) (sym z) (subst (λ q. fills s m q f ≡ true) (sym same) k)
fills_join s (suc n) m p e f h k =
    let z : suc n + m ≡ suc (n + m) = omega arith in
    let a = and_parts _ _ h in
    let inner = fills_join s n m (p + s p) e f a.1 k in
    let on : e ≤ f = fills_forward s m e f k in
    let first = ltb-true p e a.0 in
    subst (λ q. fills s q p f ≡ true) (sym z) (and_from _ _ (lt-ltb p f (omega arith)) inner)

module _ {A : Type 0} (children span : A → ℕ) (blank : A) (xs : List A) (limit : ℕ) where
  abbrev kids : ℕ → ℕ
  kids p = children (get_or xs p blank)

  abbrev s : ℕ → ℕ
  s p = span (get_or xs p blank)

  abbrev tree : ℕ → Tree A
  tree p = tree_at children span blank xs p

  -- the first n trees from place p on
  abbrev pub row_at : ℕ → ℕ → Forest A
  row_at n p = first_trees n (forest children (drop p xs))

  module _ (ok : (p : ℕ) → p < length xs → placed kids s (length xs) limit p ≡ true) where
    -- a tree is the record at its place, with as many trees below it as it has children
    pub unrolled : (p : ℕ) → p < length xs → tree p ≡ node (get_or xs p blank) (row_at (kids p) (p + 1))
    unrolled p h = ap (λ w. unwrap_or (first_tree (forest children w)) (node blank none)) (drop_more xs p blank h)

    reads : (p : ℕ) → p < length xs → forest children (drop p xs) ≡ more (tree p) (forest children (drop (p + s p) xs))
    reads p h =
        let f = found children span blank xs limit ok p h in
        f.reads ∙ ap (λ t. more t (forest children (drop (p + s p) xs))) (sym (ap (λ w. unwrap_or (first_tree w) (node blank none)) f.reads))

    -- the first of several trees, and those behind its span
    pub row_more : (n p : ℕ) → p < length xs → row_at (suc n) p ≡ more (tree p) (row_at n (p + s p))
    row_more n p h = ap (first_trees (suc n)) (reads p h)

    -- the children of a record fill its span, and lie in the table
    pub children_fill_lem : (p : ℕ) → p < length xs → fills s (kids p) (p + 1) (p + s p) ≡ true
    children_fill_lem p h = (placed_parts kids s (length xs) limit p (ok p h)).filled

    pub span_some : (p : ℕ) → p < length xs → 0 < s p
    span_some p h = (placed_parts kids s (length xs) limit p (ok p h)).some

    pub span_within : (p : ℕ) → p < length xs → p + s p ≤ length xs
    span_within p h = (placed_parts kids s (length xs) limit p (ok p h)).within

    -- trees that fill a part of the table, and then others
    pub row_join : (n m p e : ℕ) → fills s n p e ≡ true → e ≤ length xs → row_at (n + m) p ≡ join (row_at n p) (row_at m e)
    row_join zero m p e h l =
        let z : 0 + m ≡ m = omega arith in
        let same = eqb-true p e h in
        ap (λ q. row_at q p) z ∙ ap (λ q. row_at m q) same
    row_join (suc n) m p e h l =
        let z : suc n + m ≡ suc (n + m) = omega arith in
        let a = and_parts _ _ h in
        let first = ltb-true p e a.0 in
        let there : p < length xs = omega arith in
        ap (λ q. row_at q p) z ∙ row_more (n + m) p there ∙ ap (more (tree p)) (row_join n m (p + s p) e a.1 l)
        ∙ ap (λ w. join w (row_at m e)) (sym (row_more n p there))

-- what fills a part of the table, by whether anything does
pub fills_next : (s : ℕ → ℕ) (n p e : ℕ) → fills s (suc n) p e ≡ true → (p < e) × (fills s n (p + s p) e ≡ true)
fills_next s n p e h = let a = and_parts _ _ h in (ltb-true p e a.0, a.1)

pub fills_none : (s : ℕ → ℕ) (p e : ℕ) → fills s zero p e ≡ true → p ≡ e
fills_none s p e h = eqb-true p e h

-- where places are left, records are
pub fills_some : (s : ℕ → ℕ) (n p e : ℕ) → fills s n p e ≡ true → p < e → (m : ℕ) × (n ≡ suc m)
fills_some s zero p e h l = absurd (omega (arith, eqb-true p e h))
fills_some s (suc n) p e h l = (n, refl)
