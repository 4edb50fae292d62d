-- Walks from record to record by their spans, as loops take them. Assumes nothing.
use Rattle.std.proofs.Common.{◌≡◌, ℕ, zero, suc, ◌+◌, ◌-◌, ◌<◌, ◌≤◌, Bool, true, false, cond, ◌&&◌, eqb, ltb, sym, ap, ◌∙◌, subst, inl, inr, add-one, arith}
use Rattle.std.proofs.lemmas.Bool.{and_parts, ltb-true, leb-true, eqb-true, cases_eq, cases_lt}
use Rattle.std.proofs.lemmas.Bool.Decides.{nat_tests}
use Rattle.rules.specs.Preorder.{fills, around, level_at, placed}

fills_step : (s : ℕ → ℕ) (n k p e : ℕ) → k < n
    → fills s (n - k) p e ≡ (ltb p e && fills s (n - (k + 1)) (p + s p) e)
fills_step s n k p e h =
    let d : n - k ≡ suc (n - (k + 1)) = omega arith in
    ap (λ m. fills s m p e) d

-- the walk goes on, or has come to the end too early, or is over
pub walk_on : {x : Bool} (s : ℕ → ℕ) (n k p e : ℕ) → k < n → p < e
    → x ≡ fills s (n - k) p e → x ≡ fills s (n - (k + 1)) (p + s p) e
walk_on s n k p e h l i = let d = fills_step s n k p e h in grind (arith, nat_tests)

pub walk_ends : {x : Bool} (s : ℕ → ℕ) (n k p e : ℕ) → k < n → e ≤ p
    → x ≡ fills s (n - k) p e → false ≡ x
walk_ends s n k p e h l i = let d = fills_step s n k p e h in grind (arith, nat_tests)

pub walk_over : (s : ℕ → ℕ) (x : Bool) (n k p e : ℕ) → n ≤ k → x ≡ fills s (n - k) p e → eqb p e ≡ x
walk_over s x n k p e h i = let d : n - k ≡ 0 = omega arith in sym (i ∙ ap (λ m. fills s m p e) d)

-- a walk goes forward
pub fills_forward : (s : ℕ → ℕ) (n p e : ℕ) → fills s n p e ≡ true → p ≤ e
fills_forward s zero p e h = omega (arith, eqb-true p e h)
fills_forward s (suc n) p e h = omega (arith, ltb-true p e (and_parts _ _ h).0)

pub around_more : (s : ℕ → ℕ) (n p : ℕ) → around s (n + 1) p ≡ around s n p + cond (ltb p (n + s n)) 1 0
around_more s n p = ap (λ m. around s m p) (add-one n)

-- what the test of a place says
pub record Placed (kids span : ℕ → ℕ) (n limit p : ℕ) : Type 0 where
  pub some : 0 < span p
  pub within : p + span p ≤ n
  pub filled : fills span (kids p) (p + 1) (p + span p) ≡ true
  pub low : level_at span p ≤ limit

pub placed_parts : (kids span : ℕ → ℕ) (n limit p : ℕ) → placed kids span n limit p ≡ true → Placed kids span n limit p
placed_parts kids span n limit p h =
    let both = and_parts _ _ h in
    let a = and_parts _ _ both.0 in
    let b = and_parts _ _ a.1 in
    record { some = ltb-true _ _ a.0; within = leb-true _ _ b.0; filled = b.1; low = leb-true _ _ both.1 }

-- a place inside a walk lies in the span of one of its records, which ends inside the walk
pub in_walk : (s : ℕ → ℕ) (n a e p : ℕ) → fills s n a e ≡ true → a ≤ p → p < e → (c : ℕ) × (a ≤ c) × (c ≤ p) × (p < c + s c) × (c + s c ≤ e)
in_walk s zero a e p h l b = absurd (omega (arith, eqb-true a e h))
in_walk s (suc n) a e p h l b =
    let t = and_parts (ltb a e) (fills s n (a + s a) e) h in
    let f = fills_forward s n (a + s a) e t.1 in
    elim (cases_lt p (a + s a)) [
      | inl y ↦ (a, omega arith, l, y, f)
      | inr y ↦
          let w = in_walk s n (a + s a) e p t.1 y b in
          (w.0, omega (arith, w.1), w.2, w.3, w.4)
    ]

-- a record in the span of another ends in it
module _ (s kids : ℕ → ℕ) (p : ℕ) (full : (o : ℕ) → o < p → fills s (kids o) (o + 1) (o + s o) ≡ true) where
  pub nested : (k o : ℕ) → p ≤ o + k → o < p → p < o + s o → p + s p ≤ o + s o
  nested zero o m l b = absurd (omega arith)
  nested (suc k) o m l b =
      let w = in_walk s (kids o) (o + 1) (o + s o) p (full o l) (omega arith) b in
      elim (cases_eq w.0 p) [
        | inl e ↦ subst (λ x. x + s x ≤ o + s o) e w.4
        | inr d ↦
            let i = nested k w.0 (omega (arith, w.1)) (omega (arith, w.2)) w.3 in
            omega (arith, i, w.4)
      ]
