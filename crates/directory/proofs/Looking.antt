-- What the sections of leaves and parts answer. Assumes nothing.
use Rattle.std.proofs.Common.{◌≡◌, ℕ, zero, suc, ◌+◌, ◌<◌, ◌≤◌, Bool, true, List, [], ◌∷◌, map, length, get_or, take, drop, Some, None, Decides, Option, refl, ap, ◌∙◌, inl, inr, arith, length-drop, length-take}
use lib.ListN.{length-map}
use Rattle.std.proofs.lemmas.Slice.Eq.{bytes_eq-Decides}
use Rattle.std.proofs.lemmas.List.{get_or-take, get_or-drop}
use Rattle.std.proofs.lemmas.Option.{slice_get-get_or, slice_get_past}
use Rattle.std.proofs.lemmas.Bool.{cases_lt}
use Rattle.std.proofs.lemmas.Bool.Decides.{same_from_decides, nat_tests}
use Rattle.std.specs.Option.{option_map}
use Rattle.std.specs.List.{slice_get}
use Rattle.std.specs.Str.{bytes_eq}
use Rattle.rules.specs.Leaves.{Leaf}
use Rattle.format.specs.declared.records.LeafRecord.{LeafRecord}
use Rattle.format.specs.declared.layout.Layout.{Layout}
use Rattle.format.specs.Good.{previous, fair_leaf}
use Rattle.format.specs.Records.{name_bytes, no_leaf, no_name}
use Rattle.sheet.specs.declared.sheet.Sheet.{Sheet}
use Rattle.sheet.specs.Seen.{names_in, leaves_in, parts_in}
use Rattle.sheet.proofs.Sheets.{leaf_count_lem, part_count}
use Rattle.directory.specs.Listed.{listed_leaf, listed_leaves}

slice_get-map : {X Y : Type 0} (f : X → Y) (xs : List X) (i : ℕ) → slice_get (map f xs) i ≡ option_map f (slice_get xs i)
slice_get-map f [] i = refl
slice_get-map f (x ∷ xs) zero = refl
slice_get-map f (x ∷ xs) (suc i) = slice_get-map f xs i

-- whether a part is a name follows from which part it is
pub told : (part : Option (List ℕ)) (found name : List ℕ) (b : Bool) → Some found ≡ part → Decides b (found ≡ name) → Some b ≡ option_map (λ p. bytes_eq p name) part
told part found name b is says = ap Some (same_from_decides b (bytes_eq found name) says (bytes_eq-Decides found name)) ∙ ap (option_map (λ p. bytes_eq p name)) is

in_section : (l : Layout) (before r behind : LeafRecord) → fair_leaf l before r behind ≡ true → 0 < r.parts → r.first_part + r.parts ≤ l.parts.count
in_section l before r behind h some = grind (arith, nat_tests)

module _ (s : Sheet) where
  abbrev ls : List Leaf
  ls = listed_leaves s

  -- beyond the list
  pub past : (i : ℕ) → length (leaves_in s) ≤ i → slice_get ls i ≡ None
  past i h = slice_get_past ls i (simp length-map h)

  -- the leaf at i
  pub here : (i : ℕ) → i < length (leaves_in s) → slice_get ls i ≡ Some (listed_leaf s (get_or (leaves_in s) i no_leaf))
  here i h = slice_get-map (listed_leaf s) (leaves_in s) i ∙ ap (option_map (listed_leaf s)) (slice_get-get_or (leaves_in s) i no_leaf h)

  -- the parts of a leaf lie in the section of parts, unless it has none
  inside : (i : ℕ) → i < length (leaves_in s) → 0 < (get_or (leaves_in s) i no_leaf).parts → (get_or (leaves_in s) i no_leaf).first_part + (get_or (leaves_in s) i no_leaf).parts ≤ length (parts_in s)
  inside i h some =
      let good = s.leaves i (omega (arith, leaf_count_lem s)) in
      let r = get_or (leaves_in s) i no_leaf in
      let low = in_section s.layout (previous no_leaf (leaves_in s) i) r (get_or (leaves_in s) (i + 1) no_leaf) good some in
      omega (arith, low, part_count s)

  -- as many as the record says
  pub long : (i : ℕ) → i < length (leaves_in s) → length (listed_leaf s (get_or (leaves_in s) i no_leaf)).parts ≡ (get_or (leaves_in s) i no_leaf).parts
  long i h =
      let r = get_or (leaves_in s) i no_leaf in
      let a = length-map (take r.parts (drop r.first_part (parts_in s))) (name_bytes (names_in s)) in
      let b = length-take r.parts (drop r.first_part (parts_in s)) in
      let c = length-drop r.first_part (parts_in s) in
      elim (cases_lt 0 r.parts) [
        | inl some ↦ let low = inside i h some in omega (arith, a, b, c, low)
        | inr none ↦ omega (arith, a, b, c)
      ]

-- the parts of a leaf that has as many as its record says
module _ (s : Sheet) (r : LeafRecord) (j : ℕ) (all : length (listed_leaf s r).parts ≡ r.parts) where
  pub no_part : r.parts ≤ j → slice_get (listed_leaf s r).parts j ≡ None
  no_part far = slice_get_past (listed_leaf s r).parts j (omega (arith, all))

  pub part_is_lem : j < r.parts → slice_get (listed_leaf s r).parts j ≡ Some (name_bytes (names_in s) (get_or (parts_in s) (r.first_part + j) no_name))
  part_is_lem near =
      let row = take r.parts (drop r.first_part (parts_in s)) in
      let short : j < length row = omega (arith, all, length-map row (name_bytes (names_in s))) in
      slice_get-map (name_bytes (names_in s)) row j
      ∙ ap (option_map (name_bytes (names_in s))) (slice_get-get_or row j no_name short ∙ ap Some (get_or-take r.parts (drop r.first_part (parts_in s)) j no_name near ∙ get_or-drop r.first_part (parts_in s) j no_name))
