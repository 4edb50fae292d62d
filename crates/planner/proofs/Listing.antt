-- Listed roots. Assumes nothing.
use Rattle.std.proofs.Common.{◌≡◌, ℕ, suc, ◌+◌, Bool, true, false, cond, not, ◌||◌, eqb, ltb, List, [], ◌∷◌, length, Some, None, Option, sym, refl, ap, ◌∙◌, inl, inr, arith}
use Rattle.std.proofs.lemmas.Bool.{cases_lt, lt-ltb, le-ltb}
use Rattle.std.specs.List.{list_any, position_or_len}
use Rattle.std.specs.Prelude.{is_some}
use Rattle.rules.specs.RootPlan.{is_listed}

-- what `contains` answers is whether a root is listed
pub contained : (listed : List ℕ) (root : ℕ) → list_any (λ y. eqb y root) listed ≡ is_listed listed root
contained [] root = refl
contained (x ∷ xs) root = ap (λ b. eqb x root || b) (contained xs root)

pub listed_as : (listed : List ℕ) (root : ℕ) {b v : Bool} → b ≡ list_any (λ y. eqb y root) listed → b ≡ v → is_listed listed root ≡ v
listed_as listed root e f = sym (e ∙ contained listed root) ∙ f

-- what `position` tells is whether a root is listed, too
module _ (root : ℕ) where
  abbrev place : List ℕ → ℕ
  place = position_or_len (λ y. eqb y root)

  more : (k n : ℕ) → ltb (1 + k) (suc n) ≡ ltb k n
  more k n =
      elim (cases_lt k n) [
        | inl h ↦ lt-ltb (1 + k) (suc n) (omega (arith, h)) ∙ sym (lt-ltb k n h)
        | inr h ↦ le-ltb (1 + k) (suc n) (omega (arith, h)) ∙ sym (le-ltb k n h)
      ]

  later : (b : Bool) (k n : ℕ) (rest : Bool) → ltb k n ≡ rest → ltb (cond (not b) (1 + k) 0) (suc n) ≡ (b || rest)
  later true k n rest h = lt-ltb 0 (suc n) (omega arith)
  later false k n rest h = more k n ∙ h

  found : (listed : List ℕ) → ltb (place listed) (length listed) ≡ is_listed listed root
  found [] = le-ltb 0 0 (omega arith)
  found (x ∷ xs) = later (eqb x root) (place xs) (length xs) (is_listed xs root) (found xs)

  told : (b : Bool) (n : ℕ) → is_some (cond b (Some n) None) ≡ b
  told true n = refl
  told false n = refl

  pub listed_at : (listed : List ℕ) (o : Option ℕ) → o ≡ cond (ltb (position_or_len (λ y. eqb y root) listed) (length listed)) (Some (position_or_len (λ y. eqb y root) listed)) None → is_some o ≡ is_listed listed root
  listed_at listed o e = ap is_some e ∙ told _ _ ∙ found listed
