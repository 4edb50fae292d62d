-- Searches over places: the steps of the loops that make them, and what they tell. Assumes nothing.
use Rattle.std.proofs.Common.{◌≡◌, ℕ, zero, suc, ◌+◌, ◌-◌, ◌<◌, ◌≤◌, min, Bool, true, false, cond, ◌&&◌, Some, None, Option, sym, refl, ap, ◌∙◌, subst, inl, inr, arith}
use Rattle.std.proofs.lemmas.Bool.{cases_eq}
use Rattle.std.specs.Option.{MatchOption}
use Rattle.rules.specs.Searches.{first_failing, or_else, earlier}

-- a search goes on behind what passes the test, and stops at what does not
step : (ok : ℕ → Bool) (n p : ℕ) → p < n
    → first_failing ok p (n - p) ≡ cond (ok p) (first_failing ok (p + 1) (n - (p + 1))) (Some p)
step ok n p h =
    let s : n - p ≡ suc (n - (p + 1)) = omega arith in
    ap (λ m. first_failing ok p m) s

pub search_on : {x : Option ℕ} (ok : ℕ → Bool) (n p : ℕ) → p < n → ok p ≡ true
    → x ≡ first_failing ok p (n - p) → x ≡ first_failing ok (p + 1) (n - (p + 1))
search_on ok n p h t i = i ∙ (step ok n p h ∙ ap (λ b. cond b (first_failing ok (p + 1) (n - (p + 1))) (Some p)) t)

pub search_ends : {x : Option ℕ} (ok : ℕ → Bool) (n p : ℕ) → p < n → ok p ≡ false
    → x ≡ first_failing ok p (n - p) → Some p ≡ x
search_ends ok n p h t i = sym (i ∙ (step ok n p h ∙ ap (λ b. cond b (first_failing ok (p + 1) (n - (p + 1))) (Some p)) t))

pub search_over : {x : Option ℕ} (ok : ℕ → Bool) (n p : ℕ) → n ≤ p → x ≡ first_failing ok p (n - p) → None ≡ x
search_over ok n p h i =
    let s : n - p ≡ 0 = omega arith in
    sym (i ∙ ap (λ m. first_failing ok p m) s)

pub search_starts : (ok : ℕ → Bool) (n : ℕ) → first_failing ok 0 n ≡ first_failing ok 0 (n - 0)
search_starts ok n = let e : n ≡ n - 0 = omega arith in ap (first_failing ok 0) e

module _ (ok : ℕ → Bool) where
  pass_step : (b : Bool) (p : ℕ) (rest : Option ℕ) → ok p ≡ b → None ≡ cond b rest (Some p) → (ok p ≡ true) × (None ≡ rest)
  pass_step true p rest t e = (t, e)
  pass_step false p rest t e = let z : ◌≡◌ {A = ℕ} 0 1 = cc in absurd (omega arith)

  -- where it finds nothing, each place passes
  pub all_pass : (n p : ℕ) → None ≡ first_failing ok p n → (i : ℕ) → p ≤ i → i < p + n → ok i ≡ true
  all_pass zero p e i l h = absurd (omega arith)
  all_pass (suc n) p e i l h =
      let s = pass_step (ok p) p (first_failing ok (p + 1) n) refl e in
      let rest = all_pass n (p + 1) s.1 i in
      elim (cases_eq p i) [
        | inl same ↦ subst (λ x. ok x ≡ true) same s.0
        | inr other ↦ rest (omega arith) (omega arith)
      ]

  found_step : (b : Bool) (p q m : ℕ) (rest : Option ℕ) → (Some q ≡ rest → q < m) → p < m → Some q ≡ cond b rest (Some p) → q < m
  found_step true p q m rest f l e = f e
  found_step false p q m rest f l e = let s : q ≡ p = cc in omega arith

  -- what it finds is a place
  pub found_within : (n p q m : ℕ) → p + n ≤ m → Some q ≡ first_failing ok p n → q < m
  found_within zero p q m l e = let z : ◌≡◌ {A = ℕ} 0 1 = cc in absurd (omega arith)
  found_within (suc n) p q m l e =
      found_step (ok p) p q m (first_failing ok (p + 1) n) (found_within n (p + 1) q m (omega arith)) (omega arith) e

-- one of two that is none leaves the other
pub neither : {A : Type 0} (a b : Option A) → or_else a b ≡ None → (a ≡ None) × (b ≡ None)
neither None b e = (refl, e)
neither (Some f) b e = let z : ◌≡◌ {A = ℕ} 0 1 = cc in absurd (omega arith)

-- the first place that fails one of two tests
module _ (a b : ℕ → Bool) where
  low : (ok : ℕ → Bool) (n p q : ℕ) → Some q ≡ first_failing ok p n → p ≤ q
  low ok zero p q e = let z : ◌≡◌ {A = ℕ} 0 1 = cc in absurd (omega arith)
  low ok (suc n) p q e = low_step (ok p) (first_failing ok (p + 1) n) (low ok n (p + 1) q) e
    where
      low_step : (z : Bool) (rest : Option ℕ) → (Some q ≡ rest → p + 1 ≤ q) → Some q ≡ cond z rest (Some p) → p ≤ q
      low_step true rest f e = let h = f e in omega arith
      low_step false rest f e = let s : q ≡ p = cc in omega arith

  least : (p : ℕ) (o : Option ℕ) → ((q : ℕ) → Some q ≡ o → p ≤ q) → (Some p ≡ earlier (Some p) o) × (Some p ≡ earlier o (Some p))
  least p None h = (refl, refl)
  least p (Some y) h = let l = h y refl in let m : p ≡ min p y = omega arith in let k : p ≡ min y p = omega arith in (ap Some m, ap Some k)

  pub first_of_both : (n p : ℕ) → first_failing (λ q. a q && b q) p n ≡ earlier (first_failing a p n) (first_failing b p n)
  first_of_both zero p = refl
  first_of_both (suc n) p = by (first_of_both n (p + 1)) (a p) (b p)
    where
      by : first_failing (λ q. a q && b q) (p + 1) n ≡ earlier (first_failing a (p + 1) n) (first_failing b (p + 1) n) → (x y : Bool) → cond (x && y) (first_failing (λ q. a q && b q) (p + 1) n) (Some p) ≡ earlier (cond x (first_failing a (p + 1) n) (Some p)) (cond y (first_failing b (p + 1) n) (Some p))
      by i true true = i
      by i true false = (least p (first_failing a (p + 1) n) (λ q e. let l = low a n (p + 1) q e in omega arith)).1
      by i false true = (least p (first_failing b (p + 1) n) (λ q e. let l = low b n (p + 1) q e in omega arith)).0
      by i false false = let m : p ≡ min p p = omega arith in ap Some m

-- what `find` tells of the numbers of a range is the first of them that fails a test
module _ (ok : ℕ → Bool) where
  none_fails : (n p : ℕ) → ((k : ℕ) → p ≤ k → k < p + n → ok k ≡ true) → None ≡ first_failing ok p n
  none_fails zero p h = refl
  none_fails (suc n) p h =
      none_fails n (p + 1) (λ k l b. h k (omega arith) (omega arith))
      ∙ sym (ap (λ b. cond b (first_failing ok (p + 1) n) (Some p)) (h p (omega arith) (omega arith)))

  one_fails : (n p i : ℕ) → p ≤ i → i < p + n → ok i ≡ false → ((k : ℕ) → p ≤ k → k < i → ok k ≡ true) → Some i ≡ first_failing ok p n
  one_fails zero p i l b fails h = absurd (omega arith)
  one_fails (suc n) p i l b fails h =
      elim (cases_eq p i) [
        | inl e ↦ ap Some (sym e) ∙ sym (ap (λ b. cond b (first_failing ok (p + 1) n) (Some p)) (ap ok e ∙ fails))
        | inr d ↦
            one_fails n (p + 1) i (omega arith) (omega arith) fails (λ k x y. h k (omega arith) y)
            ∙ sym (ap (λ b. cond b (first_failing ok (p + 1) n) (Some p)) (h p (omega arith) (omega arith)))
      ]

  pub found_first : (a b : ℕ) (r : Option ℕ) → MatchOption r ((k : ℕ) → a ≤ k → k < b → ok k ≡ true) (λ i. (a ≤ i) × (i < b) × (ok i ≡ false) × ((k : ℕ) → a ≤ k → k < i → ok k ≡ true)) → r ≡ first_failing ok a (b - a)
  found_first a b None h = none_fails (b - a) a (λ k l u. h k l (omega arith))
  found_first a b (Some i) h = one_fails (b - a) a i h.0 (omega (arith, h.0, h.1)) h.2 h.3
