-- The leaves of each root stand one behind the other, and before those of the next, since roots never fall. Assumes nothing.
use Rattle.std.proofs.Common.{◌≡◌, ℕ, zero, suc, ◌+◌, ◌<◌, ◌≤◌, Bool, true, false, cond, ◌||◌, eqb, ltb, List, [], ◌∷◌, length, get_or, Some, sym, refl, ap, ◌∙◌, subst, inl, inr, arith}
use Rattle.std.proofs.lemmas.Bool.{eq-eqb, ne_eqb, lt-ltb, le-ltb, or_left, cases_lt, cases_order, cond-true, cond-false}
use Rattle.std.specs.List.{slice_get}
use Rattle.rules.specs.Leaves.{Leaf, roots, NeverFalls}
use Rattle.rules.specs.Names.{Name}
use Rattle.rules.specs.ReadPlan.{leaves_on, numbers, first_number, is_along, numbers_along}
use Rattle.rules.specs.RootPlan.{is_listed}
use Rattle.rules.proofs.KeptNumbers.{Between, between_wider, unlisted_below}

-- no root is below the one before it, and none is below r
abbrev pub Sorted : ℕ → List Leaf → Type 0
Sorted r [] = Unit {0}
Sorted r (l ∷ ls) = (r ≤ l.root) × Sorted l.root ls

sorted_from : (r : ℕ) (ls : List Leaf) → NeverFalls (r ∷ roots ls) → Sorted r ls
sorted_from r [] h = tt
sorted_from r (l ∷ ls) h = (
  h 0 (omega arith),
  sorted_from l.root ls (λ i b.
      let e : suc i + 1 ≡ suc (i + 1) = omega arith in
      subst (λ q. get_or (roots (l ∷ ls)) i 0 ≤ get_or (r ∷ roots (l ∷ ls)) q 0) e (h (suc i) (omega arith))),
)

pub sorted : (ls : List Leaf) → NeverFalls (roots ls) → Sorted 0 ls
sorted [] h = tt
sorted (l ∷ ls) h = (omega arith, sorted_from l.root ls h)

-- how many leaves have a root below j
abbrev pub before : ℕ → List Leaf → ℕ
before j [] = 0
before j (l ∷ ls) = cond (ltb l.root j) 1 0 + before j ls

before_less : (j : ℕ) (l : Leaf) (ls : List Leaf) → l.root < j → before j (l ∷ ls) ≡ 1 + before j ls
before_less j l ls h = ap (λ b. cond b 1 0 + before j ls) (lt-ltb l.root j h)

before_more : (j : ℕ) (l : Leaf) (ls : List Leaf) → j ≤ l.root → before j (l ∷ ls) ≡ before j ls
before_more j l ls h = let z : 0 + before j ls ≡ before j ls = omega arith in ap (λ b. cond b 1 0 + before j ls) (le-ltb l.root j h) ∙ z

before_most : (j : ℕ) (l : Leaf) (ls : List Leaf) → before j (l ∷ ls) ≤ 1 + before j ls
before_most j l ls = at (ltb l.root j)
  where
    at : (b : Bool) → cond b 1 0 + before j ls ≤ 1 + before j ls
    at true = omega arith
    at false = omega arith

pub before_all : (j : ℕ) (ls : List Leaf) → before j ls ≤ length ls
before_all j [] = omega arith
before_all j (l ∷ ls) = omega (arith, before_most j l ls, before_all j ls)

pub before_grows : (j k : ℕ) (ls : List Leaf) → j ≤ k → before j ls ≤ before k ls
before_grows j k [] h = omega arith
before_grows j k (l ∷ ls) h =
    let i = before_grows j k ls h in
    elim (cases_lt l.root j) [
      | inl x ↦ omega (arith, i, before_less j l ls x, before_less k l ls (omega arith))
      | inr x ↦ omega (arith, i, before_more j l ls x)
    ]

before_none : (j r : ℕ) (ls : List Leaf) → Sorted r ls → j ≤ r → before j ls ≡ 0
before_none j r [] s h = refl
before_none j r (l ∷ ls) s h = before_more j l ls (omega (arith, s.0)) ∙ before_none j l.root ls s.1 (omega (arith, s.0))

on_same : (j k : ℕ) (l : Leaf) (ls : List Leaf) → l.root ≡ j → leaves_on j k (l ∷ ls) ≡ (k, l) ∷ leaves_on j (k + 1) ls
on_same j k l ls h = cond-true _ _ _ (eq-eqb l.root j h)

on_other : (j k : ℕ) (l : Leaf) (ls : List Leaf) → (l.root ≡ j → ⊥) → leaves_on j k (l ∷ ls) ≡ leaves_on j (k + 1) ls
on_other j k l ls h = cond-false _ _ _ (ne_eqb l.root j h)

on_none : (j k r : ℕ) (ls : List Leaf) → Sorted r ls → j < r → leaves_on j k ls ≡ []
on_none j k r [] s h = refl
on_none j k r (l ∷ ls) s h = on_other j k l ls (λ e. omega (arith, s.0)) ∙ on_none j (k + 1) l.root ls s.1 (omega (arith, s.0))

-- the leaves of root j are all that root j + 1 has more before it
pub own_count : (j k : ℕ) (ls : List Leaf) → before j ls + length (leaves_on j k ls) ≡ before (j + 1) ls
own_count j k [] = refl
own_count j k (l ∷ ls) =
    let i = own_count j (k + 1) ls in
    elim (cases_order l.root j) [
      | inl e ↦ omega (arith, i, ap length (on_same j k l ls e), before_more j l ls (omega arith), before_less (j + 1) l ls (omega arith))
      | inr (inl x) ↦ omega (arith, i, ap length (on_other j k l ls (λ e. omega arith)), before_less j l ls x, before_less (j + 1) l ls (omega arith))
      | inr (inr x) ↦ omega (arith, i, ap length (on_other j k l ls (λ e. omega arith)), before_more j l ls (omega arith), before_more (j + 1) l ls (omega arith))
    ]

pub first_is : (j k r : ℕ) (ls : List Leaf) → Sorted r ls → 0 < length (leaves_on j k ls) → first_number (leaves_on j k ls) ≡ k + before j ls
first_is j k r [] s h = absurd (omega arith)
first_is j k r (l ∷ ls) s h =
    elim (cases_order l.root j) [
      | inl e ↦ ap first_number (on_same j k l ls e) ∙ omega (arith, before_more j l ls (omega arith), before_none j l.root ls s.1 (omega arith))
      | inr (inl x) ↦
          let o = on_other j k l ls (λ e. omega arith) in
          ap first_number o ∙ first_is j (k + 1) l.root ls s.1 (omega (arith, ap length o)) ∙ omega (arith, before_less j l ls x)
      | inr (inr x) ↦
          absurd (omega (arith, ap length (on_other j k l ls (λ e. omega arith)), ap length (on_none j (k + 1) l.root ls s.1 x)))
    ]

-- the numbers of the leaves that pass a test
abbrev pub chosen : (Leaf → Bool) → List (ℕ × Leaf) → List ℕ
chosen f [] = []
chosen f (x ∷ xs) = cond (f x.1) (x.0 ∷ chosen f xs) (chosen f xs)

pub all_chosen : (own : List (ℕ × Leaf)) → chosen (λ l. true) own ≡ numbers own
all_chosen [] = refl
all_chosen (x ∷ xs) = ap (λ w. x.0 ∷ w) (all_chosen xs)

pub along_chosen : (ps : List (List Name)) (own : List (ℕ × Leaf)) → chosen (λ l. is_along ps l.parts) own ≡ numbers_along ps own
along_chosen ps [] = refl
along_chosen ps (x ∷ xs) = ap (λ w. cond (is_along ps x.1.parts) (x.0 ∷ w) w) (along_chosen ps xs)

module _ (f : Leaf → Bool) where
  pub chosen_between : (j k r : ℕ) (ls : List Leaf) → Sorted r ls → Between (k + before j ls) (k + before (j + 1) ls) (chosen f (leaves_on j k ls))
  chosen_between j k r [] s = omega arith
  chosen_between j k r (l ∷ ls) s =
      let i = chosen_between j (k + 1) l.root ls s.1 in
      let P : List (ℕ × Leaf) → Type 0 = λ w. Between (k + before j (l ∷ ls)) (k + before (j + 1) (l ∷ ls)) (chosen f w) in
      elim (cases_order l.root j) [
        | inl e ↦ subst P (sym (on_same j k l ls e)) (same (f l) (before_more j l ls (omega arith) ∙ before_none j l.root ls s.1 (omega arith)) (before_none j l.root ls s.1 (omega arith)) (before_less (j + 1) l ls (omega arith)) i)
        | inr (inl x) ↦
            subst P (sym (on_other j k l ls (λ e. omega arith)))
            (between_wider (k + 1 + before j ls) (k + 1 + before (j + 1) ls) (k + before (j + 1) (l ∷ ls)) (k + before j (l ∷ ls)) (chosen f (leaves_on j (k + 1) ls))
            (omega (arith, before_less j l ls x)) (omega (arith, before_less (j + 1) l ls (omega arith))) i)
        | inr (inr x) ↦
            subst P (sym (on_other j k l ls (λ e. omega arith) ∙ on_none j (k + 1) l.root ls s.1 x)) (omega (arith, before_grows j (j + 1) (l ∷ ls) (omega arith)))
      ]
    where
      same : (b : Bool) → before j (l ∷ ls) ≡ 0 → before j ls ≡ 0 → before (j + 1) (l ∷ ls) ≡ 1 + before (j + 1) ls
          → Between (k + 1 + before j ls) (k + 1 + before (j + 1) ls) (chosen f (leaves_on j (k + 1) ls))
          → Between (k + before j (l ∷ ls)) (k + before (j + 1) (l ∷ ls)) (cond b (k ∷ chosen f (leaves_on j (k + 1) ls)) (chosen f (leaves_on j (k + 1) ls)))
      same true z y more i = (omega arith, between_wider (k + 1 + before j ls) (k + 1 + before (j + 1) ls) (k + before (j + 1) (l ∷ ls)) (k + 1) (chosen f (leaves_on j (k + 1) ls)) (omega arith) (omega arith) i)
      same false z y more i = between_wider (k + 1 + before j ls) (k + 1 + before (j + 1) ls) (k + before (j + 1) (l ∷ ls)) (k + before j (l ∷ ls)) (chosen f (leaves_on j (k + 1) ls)) (omega arith) (omega arith) i

  pub chosen_listed : (j k r i : ℕ) (ls : List Leaf) (l : Leaf) → Sorted r ls → slice_get ls i ≡ Some l → l.root ≡ j → is_listed (chosen f (leaves_on j k ls)) (k + i) ≡ f l
  chosen_listed j k r i [] l s n e = let z : ◌≡◌ {A = ℕ} 0 1 = cc in absurd (omega arith)
  chosen_listed j k r zero (m ∷ ls) l s n e =
      let same : m ≡ l = cc in
      ap (λ w. is_listed (chosen f w) (k + 0)) (on_same j k m ls (ap (λ q. q.root) same ∙ e)) ∙ here (f m) ∙ ap f same
    where
      here : (b : Bool) → is_listed (cond b (k ∷ chosen f (leaves_on j (k + 1) ls)) (chosen f (leaves_on j (k + 1) ls))) (k + 0) ≡ b
      here true = or_left _ _ (eq-eqb k (k + 0) (omega arith))
      here false = unlisted_below (k + 1 + before j ls) (k + 1 + before (j + 1) ls) (k + 0) (chosen f (leaves_on j (k + 1) ls)) (chosen_between j (k + 1) m.root ls s.1) (omega arith)
  chosen_listed j k r (suc i) (m ∷ ls) l s n e =
      let z : k + suc i ≡ k + 1 + i = omega arith in
      there (eqb m.root j) ∙ ap (λ q. is_listed (chosen f (leaves_on j (k + 1) ls)) q) z ∙ chosen_listed j (k + 1) m.root i ls l s.1 n e
    where
      skipped : (b : Bool) (w : List ℕ) → is_listed (cond b (k ∷ w) w) (k + suc i) ≡ is_listed w (k + suc i)
      skipped true w = ap (λ z. z || is_listed w (k + suc i)) (ne_eqb k (k + suc i) (λ e. omega arith))
      skipped false w = refl

      there : (b : Bool) → is_listed (chosen f (cond b ((k, m) ∷ leaves_on j (k + 1) ls) (leaves_on j (k + 1) ls))) (k + suc i) ≡ is_listed (chosen f (leaves_on j (k + 1) ls)) (k + suc i)
      there true = skipped (f m) (chosen f (leaves_on j (k + 1) ls))
      there false = refl

root_above : (r i : ℕ) (ls : List Leaf) (l : Leaf) → Sorted r ls → slice_get ls i ≡ Some l → r ≤ l.root
root_above r i [] l s n = let z : ◌≡◌ {A = ℕ} 0 1 = cc in absurd (omega arith)
root_above r zero (m ∷ ls) l s n = let same : m ≡ l = cc in subst (λ q. r ≤ q.root) same s.0
root_above r (suc i) (m ∷ ls) l s n = omega (arith, s.0, root_above m.root i ls l s.1 n)

-- where a leaf stands
pub leaf_from : (r i : ℕ) (ls : List Leaf) (l : Leaf) → Sorted r ls → slice_get ls i ≡ Some l → before l.root ls ≤ i
leaf_from r i [] l s n = let z : ◌≡◌ {A = ℕ} 0 1 = cc in absurd (omega arith)
leaf_from r zero (m ∷ ls) l s n =
    let same : m ≡ l = cc in
    subst (λ q. before q.root (m ∷ ls) ≤ 0) same (omega (arith, before_none m.root m.root (m ∷ ls) (omega arith, s.1) (omega arith)))
leaf_from r (suc i) (m ∷ ls) l s n = omega (arith, before_most l.root m ls, leaf_from m.root i ls l s.1 n)

pub leaf_to : (r i : ℕ) (ls : List Leaf) (l : Leaf) → Sorted r ls → slice_get ls i ≡ Some l → i < before (l.root + 1) ls
leaf_to r i [] l s n = let z : ◌≡◌ {A = ℕ} 0 1 = cc in absurd (omega arith)
leaf_to r zero (m ∷ ls) l s n =
    let same : m ≡ l = cc in
    subst (λ q. 0 < before (q.root + 1) (m ∷ ls)) same (omega (arith, before_less (m.root + 1) m ls (omega arith)))
leaf_to r (suc i) (m ∷ ls) l s n =
    let low = root_above m.root i ls l s.1 n in
    omega (arith, before_less (l.root + 1) m ls (omega arith), leaf_to m.root i ls l s.1 n)
