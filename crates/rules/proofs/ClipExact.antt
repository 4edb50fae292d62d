-- A clip keeps exactly the leaves below the pairs that are kept entire. Assumes nothing.
use Rattle.std.proofs.Common.{◌≡◌, ℕ, ◌+◌, Bool, true, false, cond, List, [], ◌∷◌, ◌++◌, map, length, get_or, drop, Some, None, Option, sym, refl, ap, ◌∙◌, ap₂, inl, inr, append_assoc, append-nil, arith}
use Rattle.std.proofs.lemmas.List.{length-append, map-append, drop-drop, drop_at, get_or-drop}
use Rattle.std.proofs.lemmas.Bool.{or_left, or_right, or_cases}
use Rattle.std.specs.List.{range_with_len}
use Rattle.rules.specs.ClipLaws.{is_pair, Child, this, later, Below, kept, items, fields, ClipsExact}
use Rattle.rules.specs.Keeping.{Keep, all, within, among, Keeps, end, without, with, kept_type, kept_fields, kept_leaves, kept_leaves_in, met, clipped, clipped_fields}
use Rattle.rules.specs.Names.{Name}
use Rattle.rules.specs.RootPlan.{is_listed}
use Rattle.rules.specs.Types.{Ty, leaf, struct, wrap, Wrapper, Fields, empty, field, leaf_codes, leaf_codes_in, leaf_count_of, leaf_count_in, type_named, both_lists}
use Rattle.rules.proofs.KeptNumbers.{between_counting, listed_between, listed_counting, listed_join}

-- a field below whose pair the leaf number x lies
record Found (fs gs : Fields) (i x : ℕ) : Type 0 where
  name : Name
  type : Ty
  target : Ty
  first : ℕ
  child : Child fs i name type first
  named : type_named name gs ≡ Some target
  below : Below type target first x

entire : (t g : Ty) (i x : ℕ) → is_pair t g ≡ false → is_listed (range_with_len i (leaf_count_of t)) x ≡ true → Below t g i x
entire t g i x p h =
    let b = listed_between i (i + leaf_count_of t) x (range_with_len i (leaf_count_of t)) (between_counting i (leaf_count_of t)) h in
    kept p b.0 b.1

only_items : (w v : Wrapper) (n m : Name) (b e : Bool) (t u : Ty) (i x : ℕ) → (is_listed (kept_leaves (clipped t u) i t) x ≡ true → Below t u i x)
    → (z : Bool) → both_lists w v ≡ z → is_listed (kept_leaves (cond z (within (clipped t u)) all) i (wrap w n b t)) x ≡ true → Below (wrap w n b t) (wrap v m e u) i x
only_items w v n m b e t u i x inner true p h = items p (inner h)
only_items w v n m b e t u i x inner false p h = entire (wrap w n b t) (wrap v m e u) i x p h

found_later : (n : Name) (b : Bool) (t : Ty) (fs gs : Fields) (i x : ℕ) → Found fs gs (i + leaf_count_of t) x → Found (field n b t fs) gs i x
found_later n b t fs gs i x f = record { name = f.name; type = f.type; target = f.target; first = f.first; child = later f.child; named = f.named; below = f.below }

only_field : (n : Name) (b : Bool) (t : Ty) (fs gs : Fields) (i x : ℕ)
    → ((g : Ty) → is_listed (kept_leaves (clipped t g) i t) x ≡ true → Below t g i x)
    → (is_listed (kept_leaves_in (clipped_fields fs gs) (i + leaf_count_of t) fs) x ≡ true → Found fs gs (i + leaf_count_of t) x)
    → (o : Option Ty) → type_named n gs ≡ o → is_listed (kept_leaves_in (met o (clipped t) (clipped_fields fs gs)) i (field n b t fs)) x ≡ true → Found (field n b t fs) gs i x
only_field n b t fs gs i x inner next None e h = found_later n b t fs gs i x (next h)
only_field n b t fs gs i x inner next (Some g) e h =
    elim (or_cases (is_listed (kept_leaves (clipped t g) i t) x) (is_listed (kept_leaves_in (clipped_fields fs gs) (i + leaf_count_of t) fs) x) (sym (listed_join (kept_leaves (clipped t g) i t) (kept_leaves_in (clipped_fields fs gs) (i + leaf_count_of t) fs) x) ∙ h)) [
      | inl l ↦ record { name = n; type = t; target = g; first = i; child = this; named = e; below = inner g l }
      | inr l ↦ found_later n b t fs gs i x (next l)
    ]

only_struct : (fs gs : Fields) (i x : ℕ) → Found fs gs i x → Below (struct fs) (struct gs) i x
only_struct fs gs i x f = fields f.child f.named f.below

mutual
  pub only : (t g : Ty) (i x : ℕ) → is_listed (kept_leaves (clipped t g) i t) x ≡ true → Below t g i x
  only (leaf c) g i x h = entire (leaf c) g i x refl h
  only (struct fs) (leaf d) i x h = entire (struct fs) (leaf d) i x refl h
  only (struct fs) (struct gs) i x h = only_struct fs gs i x (only_in fs gs i x h)
  only (struct fs) (wrap v m e u) i x h = entire (struct fs) (wrap v m e u) i x refl h
  only (wrap w n b t) (leaf d) i x h = entire (wrap w n b t) (leaf d) i x refl h
  only (wrap w n b t) (struct gs) i x h = entire (wrap w n b t) (struct gs) i x refl h
  only (wrap w n b t) (wrap v m e u) i x h = only_items w v n m b e t u i x (only t u i x) (both_lists w v) refl h

  only_in : (fs gs : Fields) (i x : ℕ) → is_listed (kept_leaves_in (clipped_fields fs gs) i fs) x ≡ true → Found fs gs i x
  only_in empty gs i x h = let n : ◌≡◌ {A = ℕ} 0 1 = cc in absurd (omega arith)
  only_in (field n b t fs) gs i x h = only_field n b t fs gs i x (λ g. only t g i x) (only_in fs gs (i + leaf_count_of t) x) (type_named n gs) refl h

-- a pair that is not gone into is kept entire
unpaired : (t g : Ty) → is_pair t g ≡ false → clipped t g ≡ all
unpaired (leaf c) g p = refl
unpaired (struct fs) (leaf d) p = refl
unpaired (struct fs) (struct gs) p = let n : ◌≡◌ {A = ℕ} 0 1 = cc in absurd (omega arith)
unpaired (struct fs) (wrap v m e u) p = refl
unpaired (wrap w n b t) (leaf d) p = refl
unpaired (wrap w n b t) (struct gs) p = refl
unpaired (wrap w n b t) (wrap v m e u) p = ap (λ z. cond z (within (clipped t u)) all) p

listed_later : (n : Name) (b : Bool) (t : Ty) (fs gs : Fields) (i x : ℕ) (o : Option Ty) → is_listed (kept_leaves_in (clipped_fields fs gs) (i + leaf_count_of t) fs) x ≡ true
    → is_listed (kept_leaves_in (met o (clipped t) (clipped_fields fs gs)) i (field n b t fs)) x ≡ true
listed_later n b t fs gs i x None h = h
listed_later n b t fs gs i x (Some g) h = listed_join (kept_leaves (clipped t g) i t) (kept_leaves_in (clipped_fields fs gs) (i + leaf_count_of t) fs) x ∙ or_right _ _ h

every_in : {fs : Fields} {n : Name} {t : Ty} {i k : ℕ} (gs : Fields) (g : Ty) (x : ℕ) → Child fs i n t k → type_named n gs ≡ Some g → is_listed (kept_leaves (clipped t g) k t) x ≡ true
    → is_listed (kept_leaves_in (clipped_fields fs gs) i fs) x ≡ true
every_in gs g x (this {n} {b} {t} {fs} {i}) e h =
    ap (λ o. is_listed (kept_leaves_in (met o (clipped t) (clipped_fields fs gs)) i (field n b t fs)) x) e
    ∙ listed_join (kept_leaves (clipped t g) i t) (kept_leaves_in (clipped_fields fs gs) (i + leaf_count_of t) fs) x
    ∙ or_left _ _ h
every_in gs g x (later {n} {m} {b} {t} {u} {fs} {i} {k} c) e h = listed_later n b t fs gs i x (type_named n gs) (every_in gs g x c e h)

pub every : {t g : Ty} {i x : ℕ} → Below t g i x → is_listed (kept_leaves (clipped t g) i t) x ≡ true
every (kept {t} {g} {i} {x} p l h) = ap (λ k. is_listed (kept_leaves k i t) x) (unpaired t g p) ∙ listed_counting i (leaf_count_of t) x l h
every (items {w} {v} {n} {m} {b} {e} {t} {u} {i} {x} p h) = ap (λ z. is_listed (kept_leaves (cond z (within (clipped t u)) all) i (wrap w n b t)) x) p ∙ every h
every (fields {fs} {gs} {n} {t} {g} {i} {k} {x} c e h) = every_in gs g x c e (every h)

mutual
  codes_count : (t : Ty) → length (leaf_codes t) ≡ leaf_count_of t
  codes_count (leaf c) = refl
  codes_count (struct fs) = codes_count_in fs
  codes_count (wrap w n b t) = codes_count t

  codes_count_in : (fs : Fields) → length (leaf_codes_in fs) ≡ leaf_count_in fs
  codes_count_in empty = refl
  codes_count_in (field n b t fs) = length-append (leaf_codes t) (leaf_codes_in fs) ∙ ap₂ ◌+◌ (codes_count t) (codes_count_in fs)

module _ (codes : List ℕ) where
  abbrev at : ℕ → ℕ
  at x = get_or codes x 0

  drop_on : (i : ℕ) (xs ys : List ℕ) → drop i codes ≡ xs ++ ys → drop (i + length xs) codes ≡ ys
  drop_on i xs ys e = sym (drop-drop (length xs) i codes) ∙ ap (drop (length xs)) e ∙ drop_at xs ys (length xs) refl

  read_run : (i : ℕ) (xs ys : List ℕ) → drop i codes ≡ xs ++ ys → map at (range_with_len i (length xs)) ≡ xs
  read_run i [] ys e = refl
  read_run i (x ∷ xs) ys e =
      let z : i + 0 ≡ i = omega arith in
      let here : at i ≡ x = ap at (sym z) ∙ sym (get_or-drop i codes 0 0) ∙ ap (λ w. get_or w 0 0) e in
      ap₂ ◌∷◌ here (read_run (i + 1) xs ys (drop_on i (x ∷ []) (xs ++ ys) e))

  read_all : (i : ℕ) (t : Ty) (rest : List ℕ) → drop i codes ≡ leaf_codes t ++ rest → leaf_codes t ≡ map at (range_with_len i (leaf_count_of t))
  read_all i t rest e = sym (read_run i (leaf_codes t) rest e) ∙ ap (λ n. map at (range_with_len i n)) (codes_count t)

  behind_first_lem : (i : ℕ) (t : Ty) (fs : Fields) (rest : List ℕ) → drop i codes ≡ (leaf_codes t ++ leaf_codes_in fs) ++ rest → drop (i + leaf_count_of t) codes ≡ leaf_codes_in fs ++ rest
  behind_first_lem i t fs rest e =
      ap (λ n. drop (i + n) codes) (sym (codes_count t))
      ∙ drop_on i (leaf_codes t) (leaf_codes_in fs ++ rest) (e ∙ append_assoc (leaf_codes t) (leaf_codes_in fs) rest)

  mutual
    codes_kept : (k : Keep) (t : Ty) (i : ℕ) (rest : List ℕ) → drop i codes ≡ leaf_codes t ++ rest → leaf_codes (kept_type k t) ≡ map at (kept_leaves k i t)
    codes_kept all t i rest e = read_all i t rest e
    codes_kept (within k) (leaf c) i rest e = read_all i (leaf c) rest e
    codes_kept (within k) (struct fs) i rest e = read_all i (struct fs) rest e
    codes_kept (within k) (wrap w n b t) i rest e = codes_kept k t i rest e
    codes_kept (among ks) (leaf c) i rest e = read_all i (leaf c) rest e
    codes_kept (among ks) (struct fs) i rest e = codes_kept_in ks fs i rest e
    codes_kept (among ks) (wrap w n b t) i rest e = read_all i t rest e

    codes_kept_in : (ks : Keeps) (fs : Fields) (i : ℕ) (rest : List ℕ) → drop i codes ≡ leaf_codes_in fs ++ rest → leaf_codes_in (kept_fields ks fs) ≡ map at (kept_leaves_in ks i fs)
    codes_kept_in end fs i rest e = refl
    codes_kept_in (without ks) empty i rest e = refl
    codes_kept_in (without ks) (field n b t fs) i rest e = codes_kept_in ks fs (i + leaf_count_of t) rest (behind_first_lem i t fs rest e)
    codes_kept_in (with k ks) empty i rest e = refl
    codes_kept_in (with k ks) (field n b t fs) i rest e =
        ap₂ ◌++◌ (codes_kept k t i (leaf_codes_in fs ++ rest) (e ∙ append_assoc (leaf_codes t) (leaf_codes_in fs) rest)) (codes_kept_in ks fs (i + leaf_count_of t) rest (behind_first_lem i t fs rest e))
        ∙ sym (map-append at (kept_leaves k i t) (kept_leaves_in ks (i + leaf_count_of t) fs))

pub clips_exact : ClipsExact
clips_exact t g =
    record {
      only = λ x h. only t g 0 x h;
      every = λ x h. every h;
      leaves = codes_kept (leaf_codes t) (clipped t g) t 0 [] (sym (append-nil (leaf_codes t)));
    }
