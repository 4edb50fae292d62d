-- Which leaves lie along the accesses on a root. Assumes nothing.
use Rattle.std.proofs.Common.{◌≡◌, ℕ, suc, ◌+◌, ◌-◌, ◌<◌, ◌≤◌, Bool, true, false, cond, ◌||◌, eqb, List, [], ◌∷◌, ◌++◌, map, length, get_or, take, set, Some, None, sym, refl, ap, ◌∙◌, append_assoc, append-nil, arith}
use Rattle.std.proofs.lemmas.List.{take_more_set, take_more, map-append}
use Rattle.std.specs.List.{range_with_len, list_any}
use Rattle.rules.specs.Keeping.{is_prefix, any_prefix}
use Rattle.rules.specs.Leaves.{Leaf}
use Rattle.rules.specs.Names.{Name}
use Rattle.rules.specs.ReadPlan.{is_along, numbers_along, on}
use Rattle.sheet.specs.declared.sheet.Sheet.{Sheet}
use Rattle.access.specs.declared.accesses.StructFieldAccess.{StructFieldAccess}
use Rattle.access.specs.Accesses.{is_access, path_at, added, accesses_in}
use Rattle.planner.specs.Segments.{no_leaf, parts_of, segment}
use Rattle.std.proofs.Math.Bool.{or-false}

none_along : (parts : List Name) → is_along [] parts ≡ false
none_along [] = refl
none_along (x ∷ rest) = refl

along_more : (p : List Name) (ps : List (List Name)) (parts : List Name) → is_along (p ∷ ps) parts ≡ (is_along (p ∷ []) parts || is_along ps parts)
along_more p ps [] = refl
along_more p ps (x ∷ rest) = ap (λ b. b || any_prefix ps rest) (sym (or-false (is_prefix p rest)))

module _ (s : Sheet) (j : ℕ) (parts : List Name) where
  abbrev by : List StructFieldAccess → Bool
  by xs = is_along (on j (accesses_in s xs)) parts

  by_more : (a : StructFieldAccess) (xs : List StructFieldAccess) → by (a ∷ xs) ≡ (by (a ∷ []) || by xs)
  by_more a xs = go (is_access s a)
    where
      inner : (c : Bool) → is_along (cond c (path_at s a ∷ on j (accesses_in s xs)) (on j (accesses_in s xs))) parts ≡ (is_along (cond c (path_at s a ∷ []) []) parts || by xs)
      inner true = along_more (path_at s a) (on j (accesses_in s xs)) parts
      inner false = ap (λ b. b || by xs) (sym (none_along parts))

      go : (b : Bool) → is_along (on j (added (cond b (Some (a.root_index, path_at s a)) None) (accesses_in s xs))) parts ≡ (is_along (on j (added (cond b (Some (a.root_index, path_at s a)) None) [])) parts || by xs)
      go true = inner (eqb a.root_index j)
      go false = ap (λ b. b || by xs) (sym (none_along parts))

  -- what one of the accesses says
  pub any_along : (xs : List StructFieldAccess) → list_any (λ a. by (a ∷ [])) xs ≡ by xs
  any_along [] = sym (none_along parts)
  any_along (a ∷ xs) = ap (λ b. by (a ∷ []) || b) (any_along xs) ∙ sym (by_more a xs)

-- the leaves of a run that lie along some paths
module _ (ls : List Leaf) (ps : List (List Name)) (end : ℕ) where
  abbrev pub left : ℕ → List ℕ
  left i = numbers_along ps (segment ls i end)

  left_more : (i : ℕ) → i < end → left i ≡ cond (is_along ps (parts_of ls i)) (i ∷ left (i + 1)) (left (i + 1))
  left_more i h =
      let z : end - i ≡ suc (end - (i + 1)) = omega arith in
      ap (λ n. numbers_along ps (map (λ k. (k, get_or ls k no_leaf)) (range_with_len i n))) z

  pub left_taken : (mask all : List ℕ) (n i : ℕ) → n < length mask → i < end → true ≡ is_along ps (parts_of ls i) → take n mask ++ left i ≡ all → take (n + 1) (set mask n i) ++ left (i + 1) ≡ all
  left_taken mask all n i room h t inv =
      ap (λ w. w ++ left (i + 1)) (take_more_set mask n i room) ∙ append_assoc (take n mask) (i ∷ []) (left (i + 1))
      ∙ ap (λ w. take n mask ++ w) (sym (left_more i h ∙ ap (λ b. cond b (i ∷ left (i + 1)) (left (i + 1))) (sym t))) ∙ inv

  pub left_passed : (mask all : List ℕ) (n i : ℕ) → i < end → false ≡ is_along ps (parts_of ls i) → take n mask ++ left i ≡ all → take n mask ++ left (i + 1) ≡ all
  left_passed mask all n i h t inv = ap (λ w. take n mask ++ w) (sym (left_more i h ∙ ap (λ b. cond b (i ∷ left (i + 1)) (left (i + 1))) (sym t))) ∙ inv

  pub left_none : (mask all : List ℕ) (n i : ℕ) → end ≤ i → take n mask ++ left i ≡ all → take n mask ≡ all
  left_none mask all n i h inv =
      let z : end - i ≡ 0 = omega arith in
      sym (ap (λ w. take n mask ++ w) (ap (λ m. numbers_along ps (map (λ k. (k, get_or ls k no_leaf)) (range_with_len i m))) z) ∙ append-nil (take n mask)) ∙ inv

-- numbers that are written one behind the other, each moved on
pub shifted_more : (xs os : List ℕ) (k first d : ℕ) → k < length xs → k < length os → take k xs ≡ map (λ o. first + o) (take k os) → take (k + 1) (set xs k (first + get_or os k d)) ≡ map (λ o. first + o) (take (k + 1) os)
shifted_more xs os k first d room h e =
    take_more_set xs k (first + get_or os k d) room ∙ ap (λ w. w ++ (first + get_or os k d) ∷ []) e
    ∙ sym (ap (map (λ o. first + o)) (take_more os k d h) ∙ map-append (λ o. first + o) (take k os) (get_or os k d ∷ []))
