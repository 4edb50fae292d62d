-- Flags that are set. Assumes nothing.
use Rattle.std.proofs.Common.{◌≡◌, ℕ, ◌<◌, Bool, true, false, ◌||◌, eqb, List, length, get_or, set, sym, refl, ap, ◌∙◌, subst, inl, inr}
use Rattle.std.proofs.lemmas.List.{get_or-set_same, get_or-set_other}
use Rattle.std.proofs.lemmas.Bool.{cases_eq, eq-eqb, ne_eqb}

pub or_assoc : (x y z : Bool) → ((x || y) || z) ≡ (x || (y || z))
or_assoc true y z = refl
or_assoc false y z = refl

pub or_none : (x : Bool) → (x || false) ≡ x
or_none true = refl
or_none false = refl

-- one flag more
pub flag_set : (flags : List Bool) (r j : ℕ) → r < length flags → get_or (set flags r true) j false ≡ (get_or flags j false || eqb r j)
flag_set flags r j h = elim (cases_eq r j) [
  | inl e ↦ subst (λ i. get_or (set flags r true) i false ≡ (get_or flags i false || eqb r i)) e (get_or-set_same flags r true false h ∙ sym (ap (λ b. get_or flags r false || b) (eq-eqb r r refl) ∙ or_true (get_or flags r false)))
  | inr d ↦ get_or-set_other flags r j true false (λ e. d (sym e)) ∙ sym (ap (λ b. get_or flags j false || b) (ne_eqb r j d) ∙ or_none (get_or flags j false))
]
  where
    or_true : (b : Bool) → (b || true) ≡ true
    or_true true = refl
    or_true false = refl
