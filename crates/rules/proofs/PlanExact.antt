-- Every plan reads exactly the leaves that are to be read, and keeps exactly what is kept of the roots. Assumes nothing.
use Rattle.std.proofs.Common.{◌≡◌, ℕ, zero, suc, ◌+◌, ◌<◌, ◌≤◌, Bool, true, false, cond, ◌&&◌, ◌||◌, eqb, ltb, List, [], ◌∷◌, length, Some, sym, refl, ap, ◌∙◌, subst, ap₂, inl, inr, arith}
use Rattle.std.proofs.lemmas.Bool.{or_from, and_parts, eqb-true, ltb-true, ltb-false, cases_lt}
use Rattle.std.specs.List.{slice_get}
use Rattle.rules.specs.Expressions.{Expr, is_column}
use Rattle.rules.specs.Findings.{accesses_of, casts_of, required_of}
use Rattle.rules.specs.Keeping.{kept_leaves, clipped}
use Rattle.rules.specs.Leaves.{Leaf, roots, NeverFalls}
use Rattle.rules.specs.Names.{Name}
use Rattle.rules.specs.PlanLaws.{field_count, is_read_by, is_read_leaf, is_read, roots_read, kept_at, kept_each, PlannedExactly, PlansExact}
use Rattle.rules.specs.ReadPlan.{Reading, unread, entire, along, narrowed, leaves_on, first_number, is_along, read_leaves, read_keep, kept_field, leaves_from, fields_from, plan_by, on, unlisted, is_empty, every, root_reading, by_paths, assembled_reading, all_columns, indices, is_plain_root, all_collected, filter_findings, filter_reading, can_narrow, by_casts, cast_reading, walked_reading, collection_reading}
use Rattle.rules.specs.RootPlan.{is_listed}
use Rattle.rules.specs.Types.{Ty, Fields, empty, field, File, leaf_count_of, type_at, same_type}
use Rattle.rules.proofs.KeptNumbers.{Between, between_forth, between_wider, between_join, unlisted_below, unlisted_above, listed_between, listed_join, ascends, kept_between}
use Rattle.rules.proofs.RootRuns.{Sorted, sorted, before, before_all, before_grows, own_count, first_is, chosen, all_chosen, along_chosen, chosen_between, chosen_listed, leaf_from, leaf_to}

-- nothing lies between a number and itself
between_none : (x low high : ℕ) (xs : List ℕ) → Between x x xs → low ≤ high → Between low high xs
between_none x low high [] b h = h
between_none x low high (y ∷ ys) b h = absurd (omega (arith, b.0, between_forth (y + 1) x ys b.1))

or_false : (x : Bool) → (x || false) ≡ x
or_false true = refl
or_false false = refl

module _ (ls : List Leaf) (s : Sorted 0 ls) where
  -- what a clip reads of root j fits the root's leaves
  abbrev Fit : Reading → Ty → ℕ → Type 0
  Fit r t j = (g : Ty) → r ≡ narrowed g → length (leaves_on j 0 ls) ≡ leaf_count_of t

  chosen_here : (f : Leaf → Bool) (j : ℕ) → Between (before j ls) (before (j + 1) ls) (chosen f (leaves_on j 0 ls))
  chosen_here f j = between_wider (0 + before j ls) (0 + before (j + 1) ls) (before (j + 1) ls) (before j ls) (chosen f (leaves_on j 0 ls)) (omega arith) (omega arith) (chosen_between f j 0 0 ls s)

  clip_here : (t g : Ty) (j : ℕ) → length (leaves_on j 0 ls) ≡ leaf_count_of t → Between (before j ls) (before (j + 1) ls) (kept_leaves (clipped t g) (first_number (leaves_on j 0 ls)) t)
  clip_here t g j e =
      let first = first_number (leaves_on j 0 ls) in
      let count = own_count j 0 ls in
      let b = kept_between (clipped t g) first t in
      let xs = kept_leaves (clipped t g) first t in
      elim (cases_lt 0 (leaf_count_of t)) [
        | inl h ↦ let f = first_is j 0 0 ls s (omega (arith, e)) in between_wider first (first + leaf_count_of t) (before (j + 1) ls) (before j ls) xs (omega (arith, f)) (omega (arith, f, count, e)) b
        | inr h ↦ let z : first + leaf_count_of t ≡ first = omega arith in between_none first (before j ls) (before (j + 1) ls) xs (subst (λ q. Between first q xs) z b) (before_grows j (j + 1) ls (omega arith))
      ]

  read_between : (r : Reading) (t : Ty) (j : ℕ) → Fit r t j → Between (before j ls) (before (j + 1) ls) (read_leaves r t (leaves_on j 0 ls))
  read_between unread t j fit = before_grows j (j + 1) ls (omega arith)
  read_between entire t j fit = subst (Between (before j ls) (before (j + 1) ls)) (all_chosen (leaves_on j 0 ls)) (chosen_here (λ l. true) j)
  read_between (along ps) t j fit = subst (Between (before j ls) (before (j + 1) ls)) (along_chosen ps (leaves_on j 0 ls)) (chosen_here (λ l. is_along ps l.parts) j)
  read_between (narrowed g) t j fit = clip_here t g j (fit g refl)

  chosen_is : (f : Leaf → Bool) (i j : ℕ) (l : Leaf) → slice_get ls i ≡ Some l → l.root ≡ j → is_listed (chosen f (leaves_on j 0 ls)) i ≡ f l
  chosen_is f i j l n e =
      let z : i ≡ 0 + i = omega arith in
      ap (is_listed (chosen f (leaves_on j 0 ls))) z ∙ chosen_listed f j 0 0 i ls l s n e

  read_listed : (r : Reading) (t : Ty) (i j : ℕ) (l : Leaf) → slice_get ls i ≡ Some l → l.root ≡ j → is_listed (read_leaves r t (leaves_on j 0 ls)) i ≡ is_read_by r t (first_number (leaves_on j 0 ls)) i l
  read_listed unread t i j l n e = refl
  read_listed entire t i j l n e = ap (λ w. is_listed w i) (sym (all_chosen (leaves_on j 0 ls))) ∙ chosen_is (λ l. true) i j l n e
  read_listed (along ps) t i j l n e = ap (λ w. is_listed w i) (sym (along_chosen ps (leaves_on j 0 ls))) ∙ chosen_is (λ l. is_along ps l.parts) i j l n e
  read_listed (narrowed g) t i j l n e = refl

  module _ (reading : ℕ → Reading) where
    abbrev Fits : ℕ → Fields → Type 0
    Fits j empty = Unit {0}
    Fits j (field n b t fs) = Fit (reading j) t j × Fits (j + 1) fs

    fits : (j : ℕ) (fs : Fields) → ((d : ℕ) → Fit (reading (j + d)) (type_at fs d) (j + d)) → Fits j fs
    fits j empty h = tt
    fits j (field n b t fs) h =
        let z : j + 0 ≡ j = omega arith in (
          subst (λ q. Fit (reading q) t q) z (h 0),
          fits (j + 1) fs (λ d. let e : j + suc d ≡ j + 1 + d = omega arith in subst (λ q. Fit (reading q) (type_at fs d) q) e (h (suc d))),
        )

    from_between : (j : ℕ) (fs : Fields) → Fits j fs → Between (before j ls) (length ls) (leaves_from reading ls j fs)
    from_between j empty h = before_all j ls
    from_between j (field n b t fs) h =
        between_join (before j ls) (before (j + 1) ls) (length ls) (read_leaves (reading j) t (leaves_on j 0 ls)) (leaves_from reading ls (j + 1) fs)
        (read_between (reading j) t j h.0) (from_between (j + 1) fs h.1)

    module _ (i : ℕ) (l : Leaf) (n : slice_get ls i ≡ Some l) where
      -- a leaf of an earlier root, and one of a later root
      past : (j : ℕ) (fs : Fields) → Fits j fs → l.root < j → is_listed (leaves_from reading ls j fs) i ≡ false
      past j fs h low =
          unlisted_below (before j ls) (length ls) i (leaves_from reading ls j fs) (from_between j fs h)
          (omega (arith, leaf_to 0 i ls l s n, before_grows (l.root + 1) j ls (omega arith)))

      ahead : (t : Ty) (j : ℕ) → Fit (reading j) t j → j < l.root → is_listed (read_leaves (reading j) t (leaves_on j 0 ls)) i ≡ false
      ahead t j h low =
          unlisted_above (before j ls) (before (j + 1) ls) i (read_leaves (reading j) t (leaves_on j 0 ls)) (read_between (reading j) t j h)
          (omega (arith, leaf_from 0 i ls l s n, before_grows (j + 1) l.root ls (omega arith)))

      beyond : (j : ℕ) (fs : Fields) → Fits j fs → j + field_count fs ≤ l.root → is_listed (leaves_from reading ls j fs) i ≡ false
      beyond j empty h low = refl
      beyond j (field m b t fs) h low =
          listed_join (read_leaves (reading j) t (leaves_on j 0 ls)) (leaves_from reading ls (j + 1) fs) i
          ∙ or_from _ _ (ahead t j h.0 (omega arith)) (beyond (j + 1) fs h.1 (omega arith))

      among : (d j : ℕ) (fs : Fields) → Fits j fs → l.root ≡ j + d → d < field_count fs
          → is_listed (leaves_from reading ls j fs) i ≡ is_read_by (reading l.root) (type_at fs d) (first_number (leaves_on l.root 0 ls)) i l
      among d j empty h e low = absurd (omega arith)
      among zero j (field m b t fs) h e low =
          let same : l.root ≡ j = omega arith in
          listed_join (read_leaves (reading j) t (leaves_on j 0 ls)) (leaves_from reading ls (j + 1) fs) i
          ∙ ap₂ ◌||◌ (read_listed (reading j) t i j l n same) (past (j + 1) fs h.1 (omega arith))
          ∙ or_false (is_read_by (reading j) t (first_number (leaves_on j 0 ls)) i l)
          ∙ ap (λ q. is_read_by (reading q) t (first_number (leaves_on q 0 ls)) i l) (sym same)
      among (suc d) j (field m b t fs) h e low =
          listed_join (read_leaves (reading j) t (leaves_on j 0 ls)) (leaves_from reading ls (j + 1) fs) i
          ∙ ap (λ z. z || is_listed (leaves_from reading ls (j + 1) fs) i) (ahead t j h.0 (omega arith))
          ∙ among d (j + 1) fs h.1 (omega arith) (omega arith)

      listed_is : (file : File) → Fits 0 file → is_listed (leaves_from reading ls 0 file) i ≡ is_read_leaf file ls reading i l
      listed_is file h = by (ltb l.root (field_count file)) refl
        where
          by : (z : Bool) → ltb l.root (field_count file) ≡ z
              → is_listed (leaves_from reading ls 0 file) i ≡ (z && is_read_by (reading l.root) (type_at file l.root) (first_number (leaves_on l.root 0 ls)) i l)
          by true e = among l.root 0 file h (omega arith) (ltb-true _ _ e)
          by false e = beyond 0 file h (omega (arith, ltb-false _ _ e))

-- the roots that are read, and what is kept of them
module _ (reading : ℕ → Reading) where
  roots_between : (j : ℕ) (fs : Fields) → Between j (j + field_count fs) (roots_read reading j fs)
  roots_between j empty = omega arith
  roots_between j (field n b t fs) = at (is_read (reading j)) (roots_between (j + 1) fs)
    where
      at : (z : Bool) → Between (j + 1) (j + 1 + field_count fs) (roots_read reading (j + 1) fs)
          → Between j (j + suc (field_count fs)) (cond z (j ∷ roots_read reading (j + 1) fs) (roots_read reading (j + 1) fs))
      at true b = (omega arith, between_wider (j + 1) (j + 1 + field_count fs) (j + suc (field_count fs)) (j + 1) (roots_read reading (j + 1) fs) (omega arith) (omega arith) b)
      at false b = between_wider (j + 1) (j + 1 + field_count fs) (j + suc (field_count fs)) j (roots_read reading (j + 1) fs) (omega arith) (omega arith) b

-- the fields from number j on
abbrev dropped : ℕ → Fields → Fields
dropped zero fs = fs
dropped (suc j) empty = empty
dropped (suc j) (field n b t fs) = dropped j fs

dropped_more : (j : ℕ) (file : Fields) (n : Name) (b : Bool) (t : Ty) (fs : Fields) → dropped j file ≡ field n b t fs → dropped (suc j) file ≡ fs
dropped_more zero empty n b t fs e = let z : ◌≡◌ {A = ℕ} 0 1 = cc in absurd (omega arith)
dropped_more zero (field m c u gs) n b t fs e = cc
dropped_more (suc j) empty n b t fs e = let z : ◌≡◌ {A = ℕ} 0 1 = cc in absurd (omega arith)
dropped_more (suc j) (field m c u gs) n b t fs e = dropped_more j gs n b t fs e

kept_at_lem : (reading : ℕ → Reading) (j : ℕ) (file : Fields) (n : Name) (b : Bool) (t : Ty) (fs rest : Fields) → dropped j file ≡ field n b t fs
    → kept_at file reading j rest ≡ kept_field (read_keep (reading j) t) n b t rest
kept_at_lem reading zero empty n b t fs rest e = let z : ◌≡◌ {A = ℕ} 0 1 = cc in absurd (omega arith)
kept_at_lem reading zero (field m c u gs) n b t fs rest e =
    let p : m ≡ n = cc in let q : c ≡ b = cc in let r : u ≡ t = cc in
    λ k. kept_field (read_keep (reading 0) (r k)) (p k) (q k) (r k) rest
kept_at_lem reading (suc j) empty n b t fs rest e = let z : ◌≡◌ {A = ℕ} 0 1 = cc in absurd (omega arith)
kept_at_lem reading (suc j) (field m c u gs) n b t fs rest e = kept_at_lem (λ k. reading (suc k)) j gs n b t fs rest e

module _ (reading : ℕ → Reading) (file : File) where
  kept_one : (r : Reading) (n : Name) (b : Bool) (t : Ty) (j : ℕ) (js : List ℕ) (fs : Fields)
      → kept_at file reading j (kept_each file reading js) ≡ kept_field (read_keep r t) n b t (kept_each file reading js)
      → fs ≡ kept_each file reading js
      → kept_field (read_keep r t) n b t fs ≡ kept_each file reading (cond (is_read r) (j ∷ js) js)
  kept_one unread n b t j js fs h e = e
  kept_one entire n b t j js fs h e = ap (kept_field (read_keep entire t) n b t) e ∙ sym h
  kept_one (along ps) n b t j js fs h e = ap (kept_field (read_keep (along ps) t) n b t) e ∙ sym h
  kept_one (narrowed g) n b t j js fs h e = ap (kept_field (read_keep (narrowed g) t) n b t) e ∙ sym h

  kept_each_lem : (j : ℕ) (fs : Fields) → dropped j file ≡ fs → fields_from reading j fs ≡ kept_each file reading (roots_read reading j fs)
  kept_each_lem j empty e = refl
  kept_each_lem j (field n b t fs) e =
      let z : suc j ≡ j + 1 = omega arith in
      let next = subst (λ q. dropped q file ≡ fs) z (dropped_more j file n b t fs e) in
      kept_one (reading j) n b t j (roots_read reading (j + 1) fs) (fields_from reading (j + 1) fs)
      (kept_at_lem reading j file n b t fs (kept_each file reading (roots_read reading (j + 1) fs)) e) (kept_each_lem (j + 1) fs next)

planned : (file : File) (ls : List Leaf) → NeverFalls (roots ls) → (reading : ℕ → Reading)
    → ((j : ℕ) (g : Ty) → reading j ≡ narrowed g → length (leaves_on j 0 ls) ≡ leaf_count_of (type_at file j))
    → PlannedExactly file ls reading (plan_by reading file ls)
planned file ls rising reading fit =
    let s = sorted ls rising in
    let f : Fits ls s reading 0 file = fits ls s reading 0 file (λ d. let z : d ≡ 0 + d = omega arith in subst (λ q. Fit ls s (reading q) (type_at file d) q) z (fit d)) in
    let b = from_between ls s reading 0 file f in
    record {
      ascending = ascends (before 0 ls) (length ls) (leaves_from reading ls 0 file) b;
      listed = λ i l n. listed_is ls s reading i l n file f;
      within = λ i h. (listed_between (before 0 ls) (length ls) i (leaves_from reading ls 0 file) b h).1;
      rising = ascends 0 (0 + field_count file) (roots_read reading 0 file) (roots_between reading 0 file);
      fields = kept_each_lem reading file 0 file refl;
    }

-- which readings are clips
either : (b : Bool) (x y w : Reading) (P : Type 0) → (x ≡ w → P) → (y ≡ w → P) → cond b x y ≡ w → P
either true x y w P p q e = p e
either false x y w P p q e = q e

entire_not : (g : Ty) → entire ≡ narrowed g → ⊥
entire_not g e = let z : ◌≡◌ {A = ℕ} 0 1 = cc in omega arith

root_not : (listed : List ℕ) (j : ℕ) (g : Ty) → root_reading listed j ≡ narrowed g → ⊥
root_not listed j g e = either (is_listed listed j) entire unread (narrowed g) ⊥ (entire_not g) (λ u. let z : ◌≡◌ {A = ℕ} 0 1 = cc in omega arith) e

paths_not : (ps : List (List Name)) (g : Ty) → by_paths ps ≡ narrowed g → ⊥
paths_not [] g e = let z : ◌≡◌ {A = ℕ} 0 1 = cc in omega arith
paths_not (p ∷ ps) g e = let z : ◌≡◌ {A = ℕ} 0 1 = cc in omega arith

assembled_not : (listed : List ℕ) (accesses : List (ℕ × List Name)) (j : ℕ) (g : Ty) → assembled_reading listed accesses j ≡ narrowed g → ⊥
assembled_not listed accesses j g e = either (is_listed listed j) entire (by_paths (on j accesses)) (narrowed g) ⊥ (entire_not g) (paths_not (on j accesses) g) e

module _ (file : File) (ls : List Leaf) where
  abbrev AsMany : ℕ → Type 0
  AsMany j = length (leaves_on j 0 ls) ≡ leaf_count_of (type_at file j)

  casts_fit : (j : ℕ) (gs : List Ty) (paths : List (List Name)) (g : Ty) → by_casts file ls j gs paths ≡ narrowed g → AsMany j
  casts_fit j [] paths g e = absurd (paths_not paths g e)
  casts_fit j (h ∷ gs) paths g e = by (can_narrow file ls j h gs paths) refl e
    where
      by : (z : Bool) → can_narrow file ls j h gs paths ≡ z → cond z (narrowed h) entire ≡ narrowed g → AsMany j
      by true c x =
          let a = (and_parts (is_empty paths) _ c).1 in
          let b = (and_parts (every (same_type h) gs) _ a).1 in
          eqb-true _ _ (and_parts (eqb (length (leaves_on j 0 ls)) (leaf_count_of (type_at file j))) _ b).0
      by false c x = absurd (entire_not g x)

  cast_fits : (listed : List ℕ) (accesses : List (ℕ × List Name)) (casts : List (ℕ × Ty)) (j : ℕ) (g : Ty) → cast_reading file ls listed accesses casts j ≡ narrowed g → AsMany j
  cast_fits listed accesses casts j g e =
      either (is_listed listed j) entire (by_casts file ls j (on j casts) (on j accesses)) (narrowed g) (AsMany j)
      (λ x. absurd (entire_not g x)) (casts_fit j (on j casts) (on j accesses) g) e

  walked_fits : (listed : List ℕ) (accesses : List (ℕ × List Name)) (casts : List (ℕ × Ty)) (j : ℕ) (g : Ty) → walked_reading file ls listed accesses casts j ≡ narrowed g → AsMany j
  walked_fits listed accesses casts j g e =
      either (is_empty casts) (cond (is_empty accesses) (root_reading listed j) (assembled_reading listed accesses j)) (cast_reading file ls listed accesses casts j) (narrowed g) (AsMany j)
      (λ x. absurd (either (is_empty accesses) (root_reading listed j) (assembled_reading listed accesses j) (narrowed g) ⊥ (root_not listed j g) (assembled_not listed accesses j g) x))
      (cast_fits listed accesses casts j g) e

  collection_fits : (es : List Expr) (accesses : List (ℕ × List Name)) (casts : List (ℕ × Ty)) (j : ℕ) (g : Ty) → collection_reading file ls es accesses casts j ≡ narrowed g → AsMany j
  collection_fits es accesses casts j g e =
      let required = required_of (all_collected file es) in
      let walked = walked_reading file ls required accesses (unlisted required casts) j in
      let none : root_reading (indices es) j ≡ narrowed g → AsMany j = λ x. absurd (root_not (indices es) j g x) in
      either (every is_column es) (root_reading (indices es) j) (cond (every (is_plain_root file) (all_columns es)) (root_reading (indices es) j) walked) (narrowed g) (AsMany j) none
      (either (every (is_plain_root file) (all_columns es)) (root_reading (indices es) j) walked (narrowed g) (AsMany j) none (walked_fits required accesses (unlisted required casts) j g)) e

pub plans_exact : PlansExact
plans_exact file ls rising = (
  λ es.
      let accesses = accesses_of (all_collected file es) in
      let casts = casts_of (all_collected file es) in
      planned file ls rising (collection_reading file ls es accesses casts) (collection_fits file ls es accesses casts),
  λ e.
      planned file ls rising (filter_reading file e) (λ j g x. absurd (assembled_not (required_of (filter_findings file e)) (accesses_of (filter_findings file e)) j g x)),
)
