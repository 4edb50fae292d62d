-- Paths that prefix the parts of a leaf. Assumes nothing.
use Rattle.std.proofs.Common.{◌≡◌, ℕ, ◌+◌, ◌<◌, ◌≤◌, Bool, true, false, ◌&&◌, zero, suc, List, [], ◌∷◌, length, get_or, drop, unwrap_or, sym, refl, ap, ◌∙◌, inl, inr, arith}
use Rattle.std.proofs.lemmas.List.{drop_more, drop_all, get_or_past}
use Rattle.std.proofs.lemmas.Option.{slice_get-get_or, slice_get_past}
use Rattle.std.proofs.lemmas.Bool.{cases_lt}
use Rattle.std.proofs.Math.Bool.{or-false}
use Rattle.std.specs.List.{list_all, range_with_len}
use Rattle.std.specs.Option.{option_map}
use Rattle.std.specs.Str.{bytes_eq}
use Rattle.rules.specs.Keeping.{is_prefix}
use Rattle.rules.specs.Leaves.{Leaf, part_count_at, part_of}
use Rattle.rules.specs.Names.{Name}
use Rattle.rules.specs.ReadPlan.{is_along}
use Rattle.sheet.specs.declared.sheet.Sheet.{Sheet}
use Rattle.access.specs.declared.accesses.StructFieldAccess.{StructFieldAccess}
use Rattle.access.specs.Accesses.{node_name, path_at}
use Rattle.planner.specs.Readings.{is_part_at}
use Rattle.planner.specs.Segments.{no_leaf, parts_of}
use Rattle.planner.proofs.AccessPaths.{path_long, path_part}

-- no path is a prefix of fewer parts
pub too_few : (p parts : List Name) → length parts ≤ length p → is_along (p ∷ []) parts ≡ false
too_few p [] h = refl
too_few p (root ∷ rest) h = or-false (is_prefix p rest) ∙ short p rest (omega arith)
  where
    short : (p rest : List Name) → length rest < length p → is_prefix p rest ≡ false
    short [] rest h = absurd (omega arith)
    short (n ∷ p) [] h = refl
    short (n ∷ p) (m ∷ rest) h = both (bytes_eq m n) (short p rest (omega arith))
      where
        both : (b : Bool) {c : Bool} → c ≡ false → (b && c) ≡ false
        both true e = e
        both false e = refl

along_is : (p parts : List Name) → 0 < length parts → is_along (p ∷ []) parts ≡ is_prefix p (drop 1 parts)
along_is p [] h = absurd (omega arith)
along_is p (root ∷ rest) h = or-false (is_prefix p rest)

-- how many parts are told, and which
pub count_is : (ls : List Leaf) (i : ℕ) → unwrap_or (part_count_at ls i) 0 ≡ length (parts_of ls i)
count_is ls i = elim (cases_lt i (length ls)) [
  | inl h ↦ ap (λ o. unwrap_or (option_map (λ (l : Leaf). length l.parts) o) 0) (slice_get-get_or ls i no_leaf h)
  | inr h ↦ ap (λ o. unwrap_or (option_map (λ (l : Leaf). length l.parts) o) 0) (slice_get_past ls i h) ∙ sym (ap (λ (l : Leaf). length l.parts) (get_or_past ls i no_leaf h))
]

leaf_there : (ls : List Leaf) (i : ℕ) → 0 < length (parts_of ls i) → i < length ls
leaf_there ls i some = elim (cases_lt i (length ls)) [
  | inl h ↦ h
  | inr h ↦ absurd (omega (arith, ap (λ (l : Leaf). length l.parts) (get_or_past ls i no_leaf h)))
]

module _ (s : Sheet) (ls : List Leaf) (i : ℕ) (a : StructFieldAccess) where
  abbrev p : List Name
  p = path_at s a

  abbrev parts : List Name
  parts = parts_of ls i

  told : (d : ℕ) → d < a.parts → d + 1 < length parts → is_part_at s ls i a d ≡ bytes_eq (get_or parts (d + 1) []) (get_or p d [])
  told d h near =
      let name = node_name s (a.first_part + d) in
      ap (λ o. unwrap_or (option_map (λ part. bytes_eq part name) (part_of o (d + 1))) false) (slice_get-get_or ls i no_leaf (leaf_there ls i (omega arith)))
      ∙ ap (λ o. unwrap_or (option_map (λ part. bytes_eq part name) o) false) (slice_get-get_or parts (d + 1) [] near)
      ∙ ap (bytes_eq (get_or parts (d + 1) [])) (path_part s a d name h refl)

  walk : (n d : ℕ) → d + n ≡ a.parts → a.parts < length parts → is_prefix (drop d p) (drop (d + 1) parts) ≡ list_all (is_part_at s ls i a) (range_with_len d n)
  walk zero d e long = ap (λ w. is_prefix w (drop (d + 1) parts)) (drop_all d p (omega (arith, path_long s a)))
  walk (suc n) d e long =
      let near : d + 1 < length parts = omega arith in
      let here : d < length p = omega (arith, path_long s a) in
      (λ k. is_prefix (drop_more p d [] here k) (drop_more parts (d + 1) [] near k))
      ∙ (λ k. sym (told d (omega arith) near) k && walk n (d + 1) (omega arith) long k)

  -- a path prefixes the parts after the first if there are as many, and each is the path's
  pub prefix_long : a.parts < length parts → list_all (is_part_at s ls i a) (range_with_len 0 a.parts) ≡ is_along (p ∷ []) parts
  prefix_long long = let z : 0 + 1 ≡ 1 = omega arith in sym (along_is p parts (omega arith) ∙ ap (λ q. is_prefix p (drop q parts)) (sym z) ∙ walk a.parts 0 (omega arith) long)

  pub prefix_short : length parts ≤ a.parts → false ≡ is_along (p ∷ []) parts
  prefix_short short = sym (too_few p parts (omega (arith, path_long s a)))
