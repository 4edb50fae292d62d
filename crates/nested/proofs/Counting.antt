-- The leaves of a type are its records of kind 1. Assumes nothing.
use Rattle.std.proofs.Common.{◌≡◌, ℕ, zero, suc, ◌+◌, ◌<◌, ◌≤◌, cond, eqb, List, [], ◌∷◌, ◌++◌, length, get_or, take, drop, sym, refl, ap, ◌∙◌, arith}
use Rattle.std.proofs.lemmas.List.{drop_more, get_or-take, get_or-drop}
use Rattle.std.proofs.lemmas.Bool.{eq-eqb, ne_eqb}
use Rattle.std.proofs.lemmas.List.Sums.{sum_by-cons, sum_by-append, count_by-le-length}
use Rattle.std.specs.List.{range_with_len, count_by}
use Rattle.rules.specs.Trees.{Tree, Forest, preorder, preorders, size}
use Rattle.rules.specs.Types.{Wrapper, list, large_list, list_view, large_list_view, fixed_size_list, map, leaf_count_of, leaf_count_in, wrapper_kind}
use Rattle.rules.proofs.Forests.{length-preorder}
use Rattle.format.specs.declared.records.TypeRecord.{TypeRecord}
use Rattle.format.specs.Records.{no_type}
use Rattle.sheet.specs.declared.sheet.Sheet.{Sheet}
use Rattle.sheet.specs.Seen.{names_in, types_in}
use Rattle.sheet.specs.SheetTrees.{type_tree, type_of, fields_of}
use Rattle.sheet.specs.SheetExpressions.{type_at_place}
use Rattle.sheet.proofs.Sheets.{type_size, type_within, type_records}
use Rattle.nested.proofs.FairTypes.{Fair, fair_leaf, fair_struct, fair_wrap, Fairs, none_fair, more_fair, fair}

-- 1 for a leaf's record, and how many of some records are leaves
abbrev is_one : TypeRecord → ℕ
is_one r = cond (eqb r.kind 1) 1 0

abbrev ones : List TypeRecord → ℕ
ones = count_by (λ r. eqb r.kind 1)

pub wrapper_high : (w : Wrapper) → 3 ≤ wrapper_kind w
wrapper_high list = omega arith
wrapper_high large_list = omega arith
wrapper_high list_view = omega arith
wrapper_high large_list_view = omega arith
wrapper_high (fixed_size_list n) = omega arith
wrapper_high (map d) = omega arith

one : (k : ℕ) → k ≡ 1 → ◌≡◌ {A = ℕ} (cond (eqb k 1) 1 0) 1
one k e = ap (λ b. cond b 1 0) (eq-eqb k 1 e)

other : (k : ℕ) → (k ≡ 1 → ⊥) → ◌≡◌ {A = ℕ} (cond (eqb k 1) 1 0) 0
other k e = ap (λ b. cond b 1 0) (ne_eqb k 1 e)

module _ (names : List ℕ) where
  mutual
    ones_leaves : {t : Tree TypeRecord} → Fair names t → ones (preorder t) ≡ leaf_count_of (type_of names t)
    ones_leaves (fair_leaf r z c k e) = omega (arith, sum_by-cons is_one r [], one r.kind k, ap leaf_count_of e)
    ones_leaves (fair_struct r f z c k e fs) = omega (arith, sum_by-cons is_one r (preorders f), other r.kind (λ y. omega (arith, k)), ap leaf_count_of e, ones_leaves_in fs)
    ones_leaves (fair_wrap r t w z c k d e f) =
        omega (arith, sum_by-cons is_one r (preorder t ++ []), other r.kind (λ y. omega (arith, k, wrapper_high w)), ap leaf_count_of e, ones_leaves f, sum_by-append is_one (preorder t) [])

    ones_leaves_in : {f : Forest TypeRecord} → Fairs names f → ones (preorders f) ≡ leaf_count_in (fields_of names f)
    ones_leaves_in none_fair = refl
    ones_leaves_in (more_fair t f a b) = omega (arith, sum_by-append is_one (preorder t) (preorders f), ones_leaves a, ones_leaves_in b)

-- the records from a place on, looked up one by one
at_places : (xs : List TypeRecord) (p i n : ℕ) → p + i + n ≤ length xs → count_by (λ k. eqb (get_or xs (p + k) no_type).kind 1) (range_with_len i n) ≡ ones (take n (drop (p + i) xs))
at_places xs p i zero h = refl
at_places xs p i (suc n) h =
    let z : p + i + 1 ≡ p + (i + 1) = omega arith in
    let first : drop (p + i) xs ≡ get_or xs (p + i) no_type ∷ drop (p + (i + 1)) xs = drop_more xs (p + i) no_type (omega arith) ∙ ap (λ m. get_or xs (p + i) no_type ∷ drop m xs) z in
    sum_by-cons (λ k. cond (eqb (get_or xs (p + k) no_type).kind 1) 1 0) i (range_with_len (i + 1) n)
    ∙ ap (λ m. cond (eqb (get_or xs (p + i) no_type).kind 1) 1 0 + m) (at_places xs p (i + 1) n (omega arith)) ∙ sym (ap (λ l. ones (take (suc n) l)) first ∙ sum_by-cons is_one (get_or xs (p + i) no_type) (take n (drop (p + (i + 1)) xs)))

module _ (s : Sheet) (p : ℕ) (h : p < length (types_in s)) where
  -- the record at a place of the span
  pub in_span : (k : ℕ) → k < size (type_tree s p) → get_or (preorder (type_tree s p)) k no_type ≡ get_or (types_in s) (p + k) no_type
  in_span k l =
      ap (λ w. get_or w k no_type) (sym (type_records s p h))
      ∙ get_or-take (size (type_tree s p)) (drop p (types_in s)) k no_type l ∙ get_or-drop p (types_in s) k no_type

  leaves_are : ones (preorder (type_tree s p)) ≡ leaf_count_of (type_at_place s p)
  leaves_are = ones_leaves (names_in s) (fair s p h)

  -- there are no more leaves than records
  pub few_leaves_at : leaf_count_of (type_at_place s p) ≤ (get_or (types_in s) p no_type).span
  few_leaves_at = omega (arith, leaves_are, count_by-le-length (λ (r : TypeRecord). eqb r.kind 1) (preorder (type_tree s p)), length-preorder (type_tree s p), type_size s p h)

  pub all_counted : (span : ℕ) → span ≡ (get_or (types_in s) p no_type).span → count_by (λ k. eqb (get_or (types_in s) (p + k) no_type).kind 1) (range_with_len 0 span) ≡ leaf_count_of (type_at_place s p)
  all_counted span e =
      let z : p + 0 ≡ p = omega arith in
      at_places (types_in s) p 0 span (omega (arith, e, type_size s p h, type_within s p h))
      ∙ ap (λ m. ones (take span (drop m (types_in s)))) z ∙ ap (λ n. ones (take n (drop p (types_in s)))) (e ∙ type_size s p h) ∙ ap ones (type_records s p h) ∙ leaves_are
