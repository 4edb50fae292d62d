-- The numbers of the leaves that are kept of a type: they ascend, and lie among those of its leaves. Assumes nothing.
use Rattle.std.proofs.Common.{◌≡◌, ℕ, zero, suc, ◌+◌, ◌<◌, ◌≤◌, Bool, true, false, ◌||◌, eqb, ◌⊎◌, List, [], ◌∷◌, ◌++◌, get_or, sym, refl, ap, ◌∙◌, subst, inl, inr, arith}
use Rattle.std.proofs.lemmas.Bool.{eq-eqb, ne_eqb, or_from, or_left, or_right, cases_lt, cases_eq}
use Rattle.std.specs.List.{range_with_len}
use Rattle.rules.specs.Keeping.{Keep, all, within, among, Keeps, end, without, with, kept_leaves, kept_leaves_in}
use Rattle.rules.specs.PlanLaws.{Ascends}
use Rattle.rules.specs.RootPlan.{is_listed}
use Rattle.rules.specs.Types.{Ty, leaf, struct, wrap, Fields, empty, field, leaf_count_of, leaf_count_in}

-- the numbers ascend, from `low` on and below `high`
abbrev pub Between : ℕ → ℕ → List ℕ → Type 0
Between low high [] = low ≤ high
Between low high (x ∷ xs) = (low ≤ x) × Between (x + 1) high xs

pub between_forth : (low high : ℕ) (xs : List ℕ) → Between low high xs → low ≤ high
between_forth low high [] b = b
between_forth low high (x ∷ xs) b = omega (arith, b.0, between_forth (x + 1) high xs b.1)

pub between_wider : (low high more less : ℕ) (xs : List ℕ) → less ≤ low → high ≤ more → Between low high xs → Between less more xs
between_wider low high more less [] l h b = omega arith
between_wider low high more less (x ∷ xs) l h b = (omega (arith, b.0), between_wider (x + 1) high more (x + 1) xs (omega arith) h b.1)

pub between_join : (low middle high : ℕ) (xs ys : List ℕ) → Between low middle xs → Between middle high ys → Between low high (xs ++ ys)
between_join low middle high [] ys b c = between_wider middle high high low ys b (omega arith) c
between_join low middle high (x ∷ xs) ys b c = (b.0, between_join (x + 1) middle high xs ys b.1 c)

pub between_counting : (i n : ℕ) → Between i (i + n) (range_with_len i n)
between_counting i zero = omega arith
between_counting i (suc n) = (omega arith, between_wider (i + 1) (i + 1 + n) (i + suc n) (i + 1) (range_with_len (i + 1) n) (omega arith) (omega arith) (between_counting (i + 1) n))

pub unlisted_below : (low high x : ℕ) (xs : List ℕ) → Between low high xs → x < low → is_listed xs x ≡ false
unlisted_below low high x [] b h = refl
unlisted_below low high x (y ∷ ys) b h =
    or_from _ _ (ne_eqb y x (λ e. omega (arith, b.0))) (unlisted_below (y + 1) high x ys b.1 (omega (arith, b.0)))

pub unlisted_above : (low high x : ℕ) (xs : List ℕ) → Between low high xs → high ≤ x → is_listed xs x ≡ false
unlisted_above low high x [] b h = refl
unlisted_above low high x (y ∷ ys) b h =
    or_from _ _ (ne_eqb y x (λ e. omega (arith, between_forth (y + 1) high ys b.1))) (unlisted_above (y + 1) high x ys b.1 h)

-- what is listed lies between
pub listed_between : (low high x : ℕ) (xs : List ℕ) → Between low high xs → is_listed xs x ≡ true → (low ≤ x) × (x < high)
listed_between low high x xs b h = (from (cases_lt x low), to (cases_lt x high))
  where
    from : (x < low) ⊎ (low ≤ x) → low ≤ x
    from (inl l) = let z : true ≡ false = sym h ∙ unlisted_below low high x xs b l in let n : ◌≡◌ {A = ℕ} 0 1 = cc in absurd (omega arith)
    from (inr l) = l

    to : (x < high) ⊎ (high ≤ x) → x < high
    to (inl l) = l
    to (inr l) = let z : true ≡ false = sym h ∙ unlisted_above low high x xs b l in let n : ◌≡◌ {A = ℕ} 0 1 = cc in absurd (omega arith)

or_assoc : (x y z : Bool) → (x || (y || z)) ≡ ((x || y) || z)
or_assoc true y z = refl
or_assoc false y z = refl

pub listed_join : (xs ys : List ℕ) (x : ℕ) → is_listed (xs ++ ys) x ≡ (is_listed xs x || is_listed ys x)
listed_join [] ys x = refl
listed_join (y ∷ xs) ys x = ap (λ z. eqb y x || z) (listed_join xs ys x) ∙ or_assoc (eqb y x) (is_listed xs x) (is_listed ys x)

pub listed_counting : (i n x : ℕ) → i ≤ x → x < i + n → is_listed (range_with_len i n) x ≡ true
listed_counting i zero x l h = absurd (omega arith)
listed_counting i (suc n) x l h =
    elim (cases_eq i x) [
      | inl e ↦ or_left _ _ (eq-eqb i x e)
      | inr e ↦ or_right _ _ (listed_counting (i + 1) n x (omega arith) (omega arith))
    ]

pub ascends : (low high : ℕ) (xs : List ℕ) → Between low high xs → Ascends xs
ascends low high [] b i h = absurd (omega arith)
ascends low high (x ∷ []) b i h = absurd (omega arith)
ascends low high (x ∷ y ∷ ys) b zero h = omega (arith, b.1.0)
ascends low high (x ∷ y ∷ ys) b (suc i) h =
    let e : suc i + 1 ≡ suc (i + 1) = omega arith in
    subst (λ q. get_or (y ∷ ys) i 0 < get_or (x ∷ y ∷ ys) q 0) (sym e) (ascends (x + 1) high (y ∷ ys) b.1 i (omega arith))

mutual
  pub kept_between : (k : Keep) (i : ℕ) (t : Ty) → Between i (i + leaf_count_of t) (kept_leaves k i t)
  kept_between all i t = between_counting i (leaf_count_of t)
  kept_between (within k) i (leaf c) = between_counting i 1
  kept_between (within k) i (struct fs) = between_counting i (leaf_count_of (struct fs))
  kept_between (within k) i (wrap w n b t) = kept_between k i t
  kept_between (among ks) i (leaf c) = between_counting i 1
  kept_between (among ks) i (struct fs) = kept_between_in ks i fs
  kept_between (among ks) i (wrap w n b t) = between_counting i (leaf_count_of t)

  kept_between_in : (ks : Keeps) (i : ℕ) (fs : Fields) → Between i (i + leaf_count_in fs) (kept_leaves_in ks i fs)
  kept_between_in end i fs = omega arith
  kept_between_in (without ks) i empty = omega arith
  kept_between_in (without ks) i (field n b t fs) =
      between_wider (i + leaf_count_of t) (i + leaf_count_of t + leaf_count_in fs) (i + (leaf_count_of t + leaf_count_in fs)) i (kept_leaves_in ks (i + leaf_count_of t) fs) (omega arith) (omega arith) (kept_between_in ks (i + leaf_count_of t) fs)
  kept_between_in (with k ks) i empty = omega arith
  kept_between_in (with k ks) i (field n b t fs) =
      between_join i (i + leaf_count_of t) (i + (leaf_count_of t + leaf_count_in fs)) (kept_leaves k i t) (kept_leaves_in ks (i + leaf_count_of t) fs)
      (kept_between k i t)
      (between_wider (i + leaf_count_of t) (i + leaf_count_of t + leaf_count_in fs) (i + (leaf_count_of t + leaf_count_in fs)) (i + leaf_count_of t) (kept_leaves_in ks (i + leaf_count_of t) fs) (omega arith) (omega arith) (kept_between_in ks (i + leaf_count_of t) fs))
