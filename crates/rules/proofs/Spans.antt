-- A tree stands at every place of a table whose records are all placed. Assumes nothing.
use Rattle.std.proofs.Common.{◌≡◌, ℕ, zero, suc, ◌+◌, ◌-◌, ◌<◌, ◌≤◌, Bool, true, false, cond, ltb, List, ◌∷◌, ◌++◌, length, get_or, drop, unwrap_or, sym, refl, ap, ◌∙◌, subst, inl, inr, append_assoc, arith}
use Rattle.std.proofs.lemmas.List.{drop_more}
use Rattle.std.proofs.lemmas.Bool.{and_parts, and_from, ltb-true, lt-ltb, eqb-true, eq-eqb, cases_lt}
use Rattle.std.proofs.lemmas.Bool.Decides.{nat_tests}
use Rattle.rules.specs.Preorder.{fills, around, level_at, placed, tree_at, Spanned, AllSpanned, Stands}
use Rattle.rules.specs.Trees.{node, Forest, none, more, count, preorder, preorders, sizes, depths, first_tree, first_trees, later_trees, forest, whole, wholes}
use Rattle.rules.proofs.Forests.{join, first_join, later_join}
use Rattle.rules.proofs.Walks.{fills_forward, around_more, nested, placed_parts}

abbrev one_if : Bool → ℕ
one_if b = cond b 1 0

module _ (s kids : ℕ → ℕ) where
  -- what lies around p lies around q, which is in p's span
  around_in : (p q : ℕ) → ((o : ℕ) → o < p → fills s (kids o) (o + 1) (o + s o) ≡ true) → p ≤ q → q < p + s p → (n : ℕ) → n ≤ p + 1 → around s n p ≤ around s n q
  around_in p q full h b zero l = omega arith
  around_in p q full h b (suc n) l =
      let i = around_in p q full h b n (omega arith) in
      let one : cond (ltb p (n + s n)) 1 0 ≤ cond (ltb q (n + s n)) 1 0 = here (ltb p (n + s n)) refl in
      omega arith
    where
      in_it : p < n + s n → q < n + s n
      in_it a =
          elim (cases_lt n p) [
            | inl low ↦ omega (arith, nested s kids p full p n (omega arith) low a)
            | inr high ↦ let e : n ≡ p = omega arith in subst (λ m. q < m + s m) (sym e) b
          ]

      here : (z : Bool) → ltb p (n + s n) ≡ z → cond z 1 0 ≤ cond (ltb q (n + s n)) 1 0
      here true e = let t = lt-ltb q (n + s n) (in_it (ltb-true p (n + s n) e)) in grind (arith, nat_tests)
      here false e = omega arith

  around_grows : (q n m : ℕ) → n ≤ m → around s n q ≤ around s m q
  around_grows q n zero l = let e : n ≡ 0 = omega arith in subst (λ k. around s k q ≤ 0) (sym e) (omega arith)
  around_grows q n (suc m) l =
      elim (cases_lt m n) [
        | inl high ↦ let e : n ≡ suc m = omega arith in subst (λ k. around s k q ≤ around s (suc m) q) (sym e) (omega arith)
        | inr low ↦ omega (arith, around_grows q n m low)
      ]

  -- a record in the span of another is on a lower level
  pub level_below : (p q : ℕ) → ((o : ℕ) → o < p → fills s (kids o) (o + 1) (o + s o) ≡ true) → p < q → q < p + s p → 0 < s q → level_at s p < level_at s q
  level_below p q full h b some =
      let a = around_in p q full (omega arith) b (p + 1) (omega arith) in
      let g = around_grows q (p + 1) q (omega arith) in
      let m = around_more s q q in
      let t = lt-ltb q (q + s q) (omega arith) in
      let one : one_if (ltb q (q + s q)) ≡ 1 = ap one_if t in
      omega (arith, a, g, m, one)

module _ {A : Type 0} (children span : A → ℕ) (blank : A) (xs : List A) (limit : ℕ) where
  abbrev kids : ℕ → ℕ
  kids p = children (get_or xs p blank)

  abbrev s : ℕ → ℕ
  s p = span (get_or xs p blank)

  module _ (ok : (p : ℕ) → p < length xs → placed kids s (length xs) limit p ≡ true) where
    pub record Found (p : ℕ) : Type 0 where
      pub forest_of : Forest A
      pub reads : forest children (drop p xs) ≡ more (node (get_or xs p blank) forest_of) (forest children (drop (p + s p) xs))
      pub written : preorder (node (get_or xs p blank) forest_of) ++ drop (p + s p) xs ≡ drop p xs
      pub long : suc (sizes forest_of) ≡ s p
      pub counted : whole children (node (get_or xs p blank) forest_of) ≡ true
      pub spans : Spanned children span (node (get_or xs p blank) forest_of)
      pub low : suc (depths forest_of) + level_at s p ≤ limit + 1

    record Row (n p e level : ℕ) : Type 0 where
      trees : Forest A
      reads : forest children (drop p xs) ≡ join trees (forest children (drop e xs))
      written : preorders trees ++ drop e xs ≡ drop p xs
      many : count trees ≡ n
      reach : p + sizes trees ≡ e
      counted : wholes children trees ≡ true
      spans : AllSpanned children span trees
      low : depths trees + level ≤ limit

    full : (p : ℕ) → p < length xs → (o : ℕ) → o < p → fills s (kids o) (o + 1) (o + s o) ≡ true
    full p h o l = (placed_parts kids s (length xs) limit o (ok o (omega arith))).filled

    level_low : (p : ℕ) → p < length xs → level_at s p ≤ limit
    level_low p h = (placed_parts kids s (length xs) limit p (ok p h)).low

    -- a record with its row of children
    grown : (p : ℕ) → p < length xs → Row (kids p) (p + 1) (p + s p) (level_at s p) → Found p
    grown p h r =
        let x = get_or xs p blank in
        let split = drop_more xs p blank h in
        record {
          forest_of = r.trees;
          reads = ap (forest children) split
              ∙ (λ k. more (node x (first_trees (children x) (r.reads k))) (later_trees (children x) (r.reads k)))
              ∙ (λ k. more (node x (first_join (children x) r.trees (forest children (drop (p + s p) xs)) r.many k)) (later_join (children x) r.trees (forest children (drop (p + s p) xs)) r.many k));
          written = ap (λ w. x ∷ w) r.written ∙ sym split;
          long = omega (arith, r.reach);
          counted = and_from _ _ (eq-eqb _ _ r.many) r.counted;
          spans = (omega (arith, r.reach), r.spans);
          low = omega (arith, r.low);
        }

    module _ (k : ℕ) (smaller : (q : ℕ) → q < length xs → s q ≤ k → Found q) (o : ℕ) (there : o < length xs) where
      row : (n p e : ℕ) → fills s n p e ≡ true → o < p → e ≤ o + s o → o + s o ≤ length xs → e - p ≤ k → Row n p e (level_at s o)
      row zero p e h before within inside short =
          let same = eqb-true p e h in
          record {
            trees = none;
            reads = ap (λ q. forest children (drop q xs)) same;
            written = ap (λ q. drop q xs) (sym same);
            many = refl;
            reach = omega arith;
            counted = refl;
            spans = tt;
            low = omega (arith, level_low o there);
          }
      row (suc n) p e h before within inside short =
          let a = and_parts _ _ h in
          let first : p < e = ltb-true p e a.0 in
          let on : p + s p ≤ e = fills_forward s n (p + s p) e a.1 in
          let f = smaller p (omega arith) (omega arith) in
          let some = (placed_parts kids s (length xs) limit p (ok p (omega arith))).some in
          let r = row n (p + s p) e a.1 (omega arith) within inside (omega arith) in
          let x = get_or xs p blank in
          let deeper = level_below s kids o p (full o there) before (omega arith) some in
          record {
            trees = more (node x f.forest_of) r.trees;
            reads = f.reads ∙ ap (more (node x f.forest_of)) r.reads;
            written = append_assoc (preorder (node x f.forest_of)) (preorders r.trees) (drop e xs) ∙ ap (λ w. preorder (node x f.forest_of) ++ w) r.written ∙ f.written;
            many = ap suc r.many;
            reach = omega (arith, r.reach, f.long);
            counted = and_from _ _ f.counted r.counted;
            spans = (f.spans, r.spans);
            low = omega (arith, r.low, f.low, deeper);
          }

    found_to : (k p : ℕ) → p < length xs → s p ≤ k → Found p
    found_to zero p h l = absurd (omega (arith, (placed_parts kids s (length xs) limit p (ok p h)).some))
    found_to (suc k) p h l =
        let g = placed_parts kids s (length xs) limit p (ok p h) in
        grown p h (row k (found_to k) p h (kids p) (p + 1) (p + s p) g.filled (omega arith) (omega arith) g.within (omega arith))

    pub found : (p : ℕ) → p < length xs → Found p
    found p h = found_to (s p) p h (omega arith)

    pub tree_is : (p : ℕ) (h : p < length xs) → tree_at children span blank xs p ≡ node (get_or xs p blank) (found p h).forest_of
    tree_is p h = ap (λ f. unwrap_or (first_tree f) (node blank none)) (found p h).reads

    pub tree_stands : (p : ℕ) → p < length xs → Stands children span xs p (tree_at children span blank xs p) limit
    tree_stands p h =
        let f = found p h in
        let t = node (get_or xs p blank) f.forest_of in
        let reach : p + s p ≡ p + suc (sizes f.forest_of) = omega (arith, f.long) in
        subst (λ u. Stands children span xs p u limit) (sym (tree_is p h)) (record {
          written = ap (λ q. preorder t ++ drop q xs) (sym reach) ∙ f.written;
          counted = f.counted;
          spans = f.spans;
          low = omega (arith, f.low, one_level p h);
        })
      where
        one_level : (p : ℕ) → p < length xs → 1 ≤ level_at s p
        one_level p h =
            let m = around_more s p p in
            let t = lt-ltb p (p + s p) (omega (arith, (placed_parts kids s (length xs) limit p (ok p h)).some)) in
            let one : one_if (ltb p (p + s p)) ≡ 1 = ap one_if t in
            omega (arith, m, one)
