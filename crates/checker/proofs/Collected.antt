-- What the notes of findings come to. Assumes nothing.
use Rattle.std.proofs.Common.{◌≡◌, ℕ, zero, suc, ◌+◌, ◌<◌, Bool, true, false, cond, not, ◌&&◌, ◌||◌, eqb, List, [], ◌∷◌, ◌++◌, map, length, get_or, replicate, Some, None, Option, sym, refl, ap, ◌∙◌, inl, inr, append_assoc, append-nil, arith}
use Rattle.std.proofs.lemmas.List.{get_or-replicate, get_or_past, length-set, length-replicate}
use Rattle.std.proofs.lemmas.Bool.{both_ways, cases_lt, eqb-true, ne_eqb, eq-eqb, or_cases, or_left, or_right}
use Rattle.rules.specs.Names.{Name}
use Rattle.rules.specs.RootPlan.{is_listed}
use Rattle.rules.specs.Types.{Ty, File, first_named, type_at, is_nested}
use Rattle.rules.specs.Expressions.{Expr, column, literal, get_field, cast, is_null, is_not_null, input_file_name, file_row_index, scalar_function, operator, Exprs, done, arg, name_of_column, path_of}
use Rattle.rules.specs.Findings.{Finding, required, accessed, through, unknown, unsupported, unpushable, is_supported, is_map_root, is_nested_cast, step_on, column_step, access_on, path_step, get_field_step, cast_on, cast_step, on_first, findings, findings_in, required_of, accesses_of, casts_of, is_flagged}
use Rattle.sheet.specs.declared.sheet.Sheet.{Sheet}
use Rattle.sheet.specs.Seen.{roots_in}
use Rattle.sheet.specs.SheetTrees.{file_in}
use Rattle.sheet.proofs.Sheets.{few_roots}
use Rattle.checker.specs.Notes.{Notes, no_notes, note, noted, flagged, is_kept_back}
use Rattle.checker.proofs.Flags.{flag_set, or_assoc, or_none}
use Rattle.checker.proofs.Rooted.{named_low}

-- accesses and casts are those that were found, in order
accesses_behind : (n : Notes) (fs : List Finding) → (noted n fs).accesses ≡ n.accesses ++ map Some (accesses_of fs)
accesses_behind n [] = sym (append-nil n.accesses)
accesses_behind n (accessed j p ∷ fs) = accesses_behind (note n (accessed j p)) fs ∙ append_assoc n.accesses (Some (j, p) ∷ []) (map Some (accesses_of fs))
accesses_behind n (f ∷ fs) = accesses_behind (note n f) fs

pub accesses_collected : (fs : List Finding) → (noted no_notes fs).accesses ≡ map Some (accesses_of fs)
accesses_collected fs = accesses_behind no_notes fs

casts_behind : (n : Notes) (fs : List Finding) → (noted n fs).casts ≡ n.casts ++ map Some (casts_of fs)
casts_behind n [] = sym (append-nil n.casts)
casts_behind n (through j g ∷ fs) = casts_behind (note n (through j g)) fs ∙ append_assoc n.casts (Some (j, g) ∷ []) (map Some (casts_of fs))
casts_behind n (f ∷ fs) = casts_behind (note n f) fs

pub casts_collected : (fs : List Finding) → (noted no_notes fs).casts ≡ map Some (casts_of fs)
casts_collected fs = casts_behind no_notes fs

-- once kept back, always
kept_on : (n : Notes) (fs : List Finding) → is_kept_back n ≡ true → is_kept_back (noted n fs) ≡ true
kept_on n [] h = h
kept_on n (unknown ∷ fs) h = kept_on (note n unknown) fs (or_right n.unsupporteds true refl)
kept_on n (unsupported ∷ fs) h = kept_on (note n unsupported) fs refl
kept_on n (unpushable ∷ fs) h = kept_on (note n unpushable) fs (or_right n.unsupporteds (n.unknowns || true) (or_right n.unknowns true refl))
kept_on n (f ∷ fs) h = kept_on (note n f) fs h

flags_behind : (n : Notes) (fs : List Finding) → is_kept_back n ≡ false → is_kept_back (noted n fs) ≡ is_flagged fs
flags_behind n [] h = h
flags_behind n (unknown ∷ fs) h = kept_on (note n unknown) fs (or_right n.unsupporteds true refl)
flags_behind n (unsupported ∷ fs) h = kept_on (note n unsupported) fs refl
flags_behind n (unpushable ∷ fs) h = kept_on (note n unpushable) fs (or_right n.unsupporteds (n.unknowns || true) (or_right n.unknowns true refl))
flags_behind n (f ∷ fs) h = flags_behind (note n f) fs h

pub flags_collected : (fs : List Finding) → is_kept_back (noted no_notes fs) ≡ is_flagged fs
flags_collected fs = flags_behind no_notes fs refl

-- a number is listed if its flag is set
early_one : (b : Bool) (k m : ℕ) (rest : List ℕ) → m < k → is_listed rest m ≡ false → is_listed (cond b (k ∷ rest) rest) m ≡ false
early_one true k m rest h e = ap (λ x. x || is_listed rest m) (ne_eqb k m (λ q. omega arith)) ∙ e
early_one false k m rest h e = e

listed_early : (flags : List Bool) (k m : ℕ) → m < k → is_listed (flagged k flags) m ≡ false
listed_early [] k m h = refl
listed_early (b ∷ flags) k m h = early_one b k m (flagged (k + 1) flags) h (listed_early flags (k + 1) m (omega arith))

here_one : (b : Bool) (k m : ℕ) (rest : List ℕ) → m ≡ k → is_listed rest m ≡ false → is_listed (cond b (k ∷ rest) rest) m ≡ b
here_one true k m rest h e = ap (λ x. x || is_listed rest m) (eq-eqb k m (sym h))
here_one false k m rest h e = e

later_one : (b : Bool) (k m : ℕ) (rest : List ℕ) → k < m → is_listed (cond b (k ∷ rest) rest) m ≡ is_listed rest m
later_one true k m rest h = ap (λ x. x || is_listed rest m) (ne_eqb k m (λ q. omega arith))
later_one false k m rest h = refl

listed_from : (flags : List Bool) (k j m : ℕ) → m ≡ k + j → is_listed (flagged k flags) m ≡ get_or flags j false
listed_from [] k j m e = refl
listed_from (b ∷ flags) k zero m e = here_one b k m (flagged (k + 1) flags) (omega arith) (listed_early flags (k + 1) m (omega arith))
listed_from (b ∷ flags) k (suc j) m e = later_one b k m (flagged (k + 1) flags) (omega arith) ∙ listed_from flags (k + 1) j m (omega arith)

pub listed_is_set : (flags : List Bool) (j : ℕ) → is_listed (flagged 0 flags) j ≡ get_or flags j false
listed_is_set flags j = listed_from flags 0 j j (omega arith)

-- each root that is required is low
abbrev pub RootsBelow : ℕ → List Finding → Type 0
RootsBelow limit fs = (j : ℕ) → is_listed (required_of fs) j ≡ true → j < limit

-- the flags that are set are those of the roots that are required
roots_behind : (n : Notes) (fs : List Finding) → length n.roots ≡ 256 → RootsBelow 256 fs → (j : ℕ) → get_or (noted n fs).roots j false ≡ (get_or n.roots j false || is_listed (required_of fs) j)
roots_behind n [] sized low j = sym (or_none (get_or n.roots j false))
roots_behind n (required i ∷ fs) sized low j =
    let below = low i (or_left (eqb i i) (is_listed (required_of fs) i) (eq-eqb i i refl)) in
    roots_behind (note n (required i)) fs (length-set n.roots i true ∙ sized) (λ m e. low m (or_right (eqb i m) (is_listed (required_of fs) m) e)) j
    ∙ ap (λ b. b || is_listed (required_of fs) j) (flag_set n.roots i j (omega (arith, sized, below)))
    ∙ or_assoc (get_or n.roots j false) (eqb i j) (is_listed (required_of fs) j)
roots_behind n (f ∷ fs) sized low j = roots_behind (note n f) fs sized low j

unset : (j : ℕ) → get_or (replicate 256 false) j false ≡ false
unset j = elim (cases_lt j 256) [
  | inl l ↦ get_or-replicate 256 j false false l
  | inr g ↦ get_or_past (replicate 256 false) j false (omega (arith, length-replicate 256 false))
]

pub roots_set : (fs : List Finding) → RootsBelow 256 fs → (j : ℕ) → get_or (noted no_notes fs).roots j false ≡ is_listed (required_of fs) j
roots_set fs low j = roots_behind no_notes fs (length-replicate 256 false) low j ∙ ap (λ b. b || is_listed (required_of fs) j) (unset j)

pub roots_collected : (fs : List Finding) → RootsBelow 256 fs → (j : ℕ) → is_listed (flagged 0 (noted no_notes fs).roots) j ≡ is_listed (required_of fs) j
roots_collected fs low j = listed_is_set (noted no_notes fs).roots j ∙ roots_set fs low j

-- what is found of a sheet requires the sheet's roots
below_append : (limit : ℕ) (fs gs : List Finding) → RootsBelow limit fs → RootsBelow limit gs → RootsBelow limit (fs ++ gs)
below_append limit [] gs f g = g
below_append limit (required i ∷ fs) gs f g = λ j e. elim (or_cases (eqb i j) (is_listed (required_of (fs ++ gs)) j) e) [
  | inl q ↦ f j (or_left (eqb i j) (is_listed (required_of fs) j) q)
  | inr q ↦ below_append limit fs gs (λ m d. f m (or_right (eqb i m) (is_listed (required_of fs) m) d)) g j q
]
below_append limit (_ ∷ fs) gs f g = below_append limit fs gs f g

module _ (s : Sheet) (lists casts : Bool) where
  abbrev file : File
  file = file_in s

  abbrev Low : List Finding → Type 0
  Low = RootsBelow (length (roots_in s))

  none_low : (fs : List Finding) → required_of fs ≡ [] → Low fs
  none_low fs e j q = absurd (both_ways (is_listed (required_of fs) j) (ap (λ w. is_listed w j) e) q)

  pick : (b : Bool) (fs gs : List Finding) → Low fs → Low gs → Low (cond b fs gs)
  pick true fs gs f g = f
  pick false fs gs f g = g

  flat : (b : Bool) → required_of (cond b (unsupported ∷ []) []) ≡ []
  flat true = refl
  flat false = refl

  on_low : (o : Option ℕ) → ((j : ℕ) → o ≡ Some j → j < length (roots_in s)) → Low (step_on file lists casts o)
  on_low None h j e = none_low (unknown ∷ []) refl j e
  on_low (Some i) h j e =
      let b = is_nested (type_at file i) && not (is_supported file lists casts (type_at file i)) in
      elim (or_cases (eqb i j) (is_listed (required_of (cond b (unsupported ∷ []) [])) j) e) [
        | inl q ↦ h j (ap Some (eqb-true i j q))
        | inr q ↦ absurd (both_ways (is_listed (required_of (cond b (unsupported ∷ []) [])) j) (ap (λ w. is_listed w j) (flat b)) q)
      ]

  column_low : (name : Name) → Low (column_step file lists casts name)
  column_low name = on_low (first_named name 0 file) (named_low s name)

  access_low : (path : List Name) (o : Option ℕ) → Low (access_on file lists casts path o)
  access_low path None = none_low (unknown ∷ []) refl
  access_low path (Some i) = none_low (accessed i path ∷ []) refl

  path_low : (name : Name) (o : Option (List Name)) → Low (path_step file lists casts name o)
  path_low name None = column_low name
  path_low name (Some path) = access_low path (first_named name 0 file)

  field_low : (t : Ty) (o : Option Name) (es : Exprs) (inside : List Finding) → Low inside → Low (get_field_step file lists casts t o es inside)
  field_low t None es inside h = h
  field_low t (Some name) es inside h = pick (not (is_map_root file lists casts (first_named name 0 file)) && (not (is_nested t) || is_supported file lists casts t)) (path_step file lists casts name (path_of es)) inside (path_low name (path_of es)) h

  first_low : (t : Ty) (es : Exprs) (inside : List Finding) → Low inside → Low (on_first file lists casts t es inside)
  first_low t done inside h = h
  first_low t (arg e es) inside h = field_low t (name_of_column e) es inside h

  cast_on_low : (g : Ty) (o : Option ℕ) (inside : List Finding) → Low inside → Low (cast_on file lists casts g o inside)
  cast_on_low g None inside h = h
  cast_on_low g (Some i) inside h = pick (casts && is_nested_cast (type_at file i) g) (through i g ∷ []) inside (none_low (through i g ∷ []) refl) h

  cast_low : (g : Ty) (o : Option Name) (inside : List Finding) → Low inside → Low (cast_step file lists casts g o inside)
  cast_low g None inside h = h
  cast_low g (Some name) inside h = cast_on_low g (first_named name 0 file) inside h

  mutual
    pub required_low : (e : Expr) → Low (findings file lists casts e)
    required_low (column n i) = column_low n
    required_low (literal l) = none_low [] refl
    required_low (get_field t es) = first_low t es (findings_in file lists casts es) (all_low es)
    required_low (cast g e) = cast_low g (name_of_column e) (findings file lists casts e) (required_low e)
    required_low (is_null e) = required_low e
    required_low (is_not_null e) = required_low e
    required_low (input_file_name es) = none_low (unpushable ∷ []) refl
    required_low (file_row_index es) = none_low (unpushable ∷ []) refl
    required_low (scalar_function f es) = all_low es
    required_low (operator f es) = all_low es

    all_low : (es : Exprs) → Low (findings_in file lists casts es)
    all_low done = none_low [] refl
    all_low (arg e es) = below_append (length (roots_in s)) (findings file lists casts e) (findings_in file lists casts es) (required_low e) (all_low es)

  -- of which there are few
  pub required_few : (e : Expr) → RootsBelow 256 (findings file lists casts e)
  required_few e j q = omega (arith, required_low e j q, few_roots s)
