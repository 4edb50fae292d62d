-- The ends of the records around a place, held in a stack: how a table's levels are told in one pass. Assumes nothing.
use Rattle.std.proofs.Common.{◌≡◌, ℕ, zero, suc, ◌+◌, ◌-◌, ◌<◌, ◌≤◌, Bool, true, false, cond, ltb, List, [], ◌∷◌, ◌++◌, length, get_or, take, Some, None, sym, refl, ap, ◌∙◌, subst, inl, inr, add-one, arith, length-take}
use Rattle.std.proofs.lemmas.List.{get_or_append_left, get_or-take, get_or-append-add}
use Rattle.std.proofs.lemmas.Bool.{le-ltb, lt-ltb, le-leb, and_left, and_from, cases_eq}
use Rattle.std.proofs.lemmas.Bool.Decides.{nat_tests}
use Rattle.rules.specs.Preorder.{fills, around, level_at, spanned, placed}
use Rattle.rules.specs.Searches.{first_failing}
use Rattle.rules.proofs.Searches.{search_on, search_ends, search_over, search_starts}
use Rattle.rules.proofs.Walks.{around_more, nested, placed_parts}

abbrev one_if : Bool → ℕ
one_if b = cond b 1 0

-- how many of the first n numbers are above q
abbrev above : (xs : List ℕ) (n q : ℕ) → ℕ
above xs zero q = 0
above xs (suc n) q = above xs n q + cond (ltb q (get_or xs n 0)) 1 0

above_cut : (xs : List ℕ) (r n q : ℕ) → r ≤ n → ((i : ℕ) → r ≤ i → i < n → get_or xs i 0 ≤ q) → above xs n q ≡ above xs r q
above_cut xs r zero q l h = let e : zero ≡ r = omega arith in ap (λ m. above xs m q) e
above_cut xs r (suc n) q l h =
    elim (cases_eq r (suc n)) [
      | inl e ↦ ap (λ m. above xs m q) (sym e)
      | inr d ↦
          let i = above_cut xs r n q (omega arith) (λ j a b. h j a (omega arith)) in
          let t = le-ltb q (get_or xs n 0) (h n (omega arith) (omega arith)) in
          let z : one_if (ltb q (get_or xs n 0)) ≡ 0 = ap one_if t in
          omega (arith, i, z)
    ]

above_all : (xs : List ℕ) (n q : ℕ) → ((i : ℕ) → i < n → q < get_or xs i 0) → above xs n q ≡ n
above_all xs zero q h = refl
above_all xs (suc n) q h =
    let i = above_all xs n q (λ j b. h j (omega arith)) in
    let t = lt-ltb q (get_or xs n 0) (h n (omega arith)) in
    let z : one_if (ltb q (get_or xs n 0)) ≡ 1 = ap one_if t in
    omega (arith, i, z)

above_same : (xs ys : List ℕ) (n q : ℕ) → ((i : ℕ) → i < n → get_or xs i 0 ≡ get_or ys i 0) → above xs n q ≡ above ys n q
above_same xs ys zero q h = refl
above_same xs ys (suc n) q h =
    let i = above_same xs ys n q (λ j b. h j (omega arith)) in
    let t = ap (λ x. one_if (ltb q x)) (h n (omega arith)) in
    omega (arith, i, t)

-- the stack before the place p, the first so many of a list: the ends of earlier records, none above the one under it,
-- and among them all that lie behind p
pub record Held (s : ℕ → ℕ) (limit p : ℕ) (ends : List ℕ) (held : ℕ) : Type 0 where
  pub few : held ≤ limit
  pub ended : (i : ℕ) → i < held → (o : ℕ) × (o < p) × (get_or ends i 0 ≡ o + s o)
  pub falling : (i j : ℕ) → i ≤ j → j < held → get_or ends j 0 ≤ get_or ends i 0
  pub counted : (q : ℕ) → p ≤ q → around s p q ≡ above ends held q

module _ (s : ℕ → ℕ) (limit p : ℕ) (ends : List ℕ) where
  popped : (held r : ℕ) → Held s limit p ends held → r ≤ held → ((i : ℕ) → r ≤ i → i < held → get_or ends i 0 ≤ p) → Held s limit p ends r
  popped held r o l h = record {
    few = omega (arith, o.few);
    ended = λ i b. o.ended i (omega arith);
    falling = λ i j a b. o.falling i j a (omega arith);
    counted = λ q a. o.counted q a ∙ above_cut ends r held q l (λ i x y. let z = h i x y in omega arith);
  }

  module _ (r : ℕ) (o : Held s limit p ends r) (last : 0 < r → p < get_or ends (r - 1) 0) where
    around_all : (i : ℕ) → i < r → p < get_or ends i 0
    around_all i b =
        let f = o.falling i (r - 1) (omega arith) (omega arith) in
        let g = last (omega arith) in
        omega arith

    level_is : level_at s p ≡ r + cond (ltb p (p + s p)) 1 0
    level_is =
        let m = around_more s p p in
        let c = o.counted p (omega arith) in
        let a = above_all ends r p around_all in
        omega (arith, m, c, a)

    -- one end more on top, in a list that has the others where they were
    pushed : (kids : ℕ → ℕ) → ((o : ℕ) → o < p → fills s (kids o) (o + 1) (o + s o) ≡ true) → r < limit
        → (grown : List ℕ) → get_or grown r 0 ≡ p + s p → ((i : ℕ) → i < r → get_or grown i 0 ≡ get_or ends i 0) → Held s limit (p + 1) grown (r + 1)
    pushed kids full l grown here there =
        let v = p + s p in
        let below : (i : ℕ) → i < r → v ≤ get_or ends i 0 = λ i b.
        let e = o.ended i b in
        let n = nested s kids p full p e.0 (omega arith) e.1 (omega (arith, e.2, around_all i b)) in
        omega (arith, n, e.2) in
        record {
          few = omega arith;
          ended = λ i b. elim (cases_eq i r) [
            | inl e ↦ (p, omega arith, ap (λ x. get_or grown x 0) e ∙ here)
            | inr d ↦ let h : i < r = omega arith in let e = o.ended i h in (e.0, omega (arith, e.1), there i h ∙ e.2)
          ];
          falling = λ i j a b. elim (cases_eq j r) [
            | inl e ↦ elim (cases_eq i r) [
              | inl f ↦ let g : j ≡ i = omega arith in omega (arith, ap (λ x. get_or grown x 0) g)
              | inr d ↦
                  let h : i < r = omega arith in
                  omega (arith, ap (λ x. get_or grown x 0) e, here, there i h, below i h)
            ]
            | inr d ↦
                let h : j < r = omega arith in
                let k : i < r = omega arith in
                omega (arith, there i k, there j h, o.falling i j a h)
          ];
          counted = λ q a.
              let m = around_more s p q in
              let c = o.counted q (omega arith) in
              let e = above_same grown ends r q there in
              let t = ap (λ x. one_if (ltb q x)) here in
              let u : above grown (r + 1) q ≡ above grown r q + cond (ltb q (get_or grown r 0)) 1 0 = ap (λ n. above grown n q) (add-one r) in
              omega (arith, m, c, e, t, u);
        }

-- what is left of the stack at the place p, once the ends that do not lie behind it are gone
pub record Left (p : ℕ) (ends : List ℕ) (held r : ℕ) : Type 0 where
  pub fewer : r ≤ held
  pub past : (i : ℕ) → r ≤ i → i < held → get_or ends i 0 ≤ p
  pub last : 0 < r → p < get_or ends (r - 1) 0

module _ (kids span : ℕ → ℕ) (n limit : ℕ) where
  -- the state of the search for the first place that is not placed
  pub record Searched (p : ℕ) (ends : List ℕ) (held : ℕ) : Type 0 where
    pub rest : first_failing (placed kids span n limit) 0 n ≡ first_failing (placed kids span n limit) p (n - p)
    pub passed : (i : ℕ) → i < p → placed kids span n limit i ≡ true
    pub stack : Held span limit p ends held

  pub begun : (ends : List ℕ) → Searched 0 ends 0
  begun ends = record {
    rest = search_starts (placed kids span n limit) n;
    passed = λ i b. absurd (omega arith);
    stack = record {
      few = omega arith;
      ended = λ i b. absurd (omega arith);
      falling = λ i j a b. absurd (omega arith);
      counted = λ q a. refl;
    };
  }

  module _ (p : ℕ) (ends : List ℕ) (held r : ℕ) (i : Searched p ends held) (l : Left p ends held r) where
    now_held : Held span limit p ends r
    now_held = popped span limit p ends held r i.stack l.fewer l.past

    pub at_most : r ≤ limit
    at_most = now_held.few

    level : level_at span p ≡ r + cond (ltb p (p + span p)) 1 0
    level = level_is span limit p ends r now_held l.last

    pub too_deep : p < n → r ≡ limit → Some p ≡ first_failing (placed kids span n limit) 0 n
    too_deep b e = let d = level in search_ends (placed kids span n limit) n p b (grind (arith, nat_tests)) i.rest

    pub not_spanned : p < n → spanned kids span n p ≡ false → Some p ≡ first_failing (placed kids span n limit) 0 n
    not_spanned b e = search_ends (placed kids span n limit) n p b (and_left _ _ e) i.rest

    pub next : p < n → (r ≡ limit → ⊥) → spanned kids span n p ≡ true → (grown : List ℕ) → get_or grown r 0 ≡ p + span p → ((i : ℕ) → i < r → get_or grown i 0 ≡ get_or ends i 0)
        → Searched (p + 1) grown (r + 1)
    next b a0 a1 grown here there =
        let few = at_most in
        let lt : r < limit = omega arith in
        let d = level in
        let low : level_at span p ≤ limit = grind (arith, nat_tests) in
        let g : placed kids span n limit p ≡ true = and_from _ _ a1 (le-leb _ _ low) in
        record {
          rest = search_on (placed kids span n limit) n p b g i.rest;
          passed = λ j h. elim (cases_eq j p) [
            | inl s ↦ subst (λ x. placed kids span n limit x ≡ true) (sym s) g
            | inr o ↦ i.passed j (omega arith)
          ];
          stack = pushed span limit p ends r now_held l.last kids (λ o h. (placed_parts kids span n limit o (i.passed o h)).filled) lt grown here there;
        }

  pub done : (p : ℕ) (ends : List ℕ) (held : ℕ) → Searched p ends held → n ≤ p → None ≡ first_failing (placed kids span n limit) 0 n
  done p ends held i l = search_over (placed kids span n limit) n p l i.rest

-- the stack as a list of its own: some ends on top are let go, and one is put on top
module _ (ends left : List ℕ) (kept : left ≡ take (length left) ends) where
  pub let_go_fewer : length left ≤ length ends
  let_go_fewer = omega (arith, ap length kept, length-take (length left) ends)

  pub let_go_same : (i : ℕ) → i < length left → get_or left i 0 ≡ get_or ends i 0
  let_go_same i b = ap (λ xs. get_or xs i 0) kept ∙ get_or-take (length left) ends i 0 b

  pub on_top : (v : ℕ) → get_or (left ++ v ∷ []) (length left) 0 ≡ v
  on_top v = let z : length left ≡ length left + 0 = omega arith in ap (λ n. get_or (left ++ v ∷ []) n 0) z ∙ get_or-append-add left (v ∷ []) 0 0

  pub under_top : (v i : ℕ) → i < length left → get_or (left ++ v ∷ []) i 0 ≡ get_or ends i 0
  under_top v i b = get_or_append_left left (v ∷ []) 0 i b ∙ let_go_same i b

  pub left_of : (p : ℕ) → ((i : ℕ) → length left ≤ i → i < length ends → get_or ends i 0 ≤ p) → (0 < length left → p < get_or left (length left - 1) 0) → Left p ends (length ends) (length left)
  left_of p past last = record {
    fewer = let_go_fewer;
    past = past;
    last = λ some. omega (arith, last some, let_go_same (length left - 1) (omega arith));
  }
