-- Tests of types, by their kinds. Assumes nothing.
use Rattle.std.proofs.Common.{◌≡◌, ℕ, ◌<◌, ◌⊎◌, inl, inr, Bool, true, false, length, Some, None, Option, sym, refl, ap, ◌∙◌, subst}
use Rattle.rules.specs.Types.{Wrapper, list, large_list, list_view, large_list_view, fixed_size_list, map, wrapper_kind, Ty, is_nested, is_map, is_map_wrapper, is_list, is_list_wrapper}
use Rattle.format.specs.declared.kinds.TypeKind.{TypeKind}
use Rattle.format.specs.declared.kinds.TypeKind.TheVariants.{Leaf, List, LargeList, FixedSizeList, Map}
use Rattle.format.specs.Kinds.{type_kind_of}
use Rattle.sheet.specs.Seen.{types_in}
use Rattle.sheet.specs.SheetExpressions.{type_at_place}
use Rattle.sheet.specs.declared.sheet.Sheet.{Sheet}
use Rattle.sheet.proofs.Readers.{type_record_at, is_leaf, is_struct, is_wrap, type_view}

abbrev nested_kind : TypeKind → Bool
nested_kind Leaf = false
nested_kind _ = true

abbrev map_kind : TypeKind → Bool
map_kind Map = true
map_kind _ = false

abbrev list_kind : TypeKind → Bool
list_kind List = true
list_kind LargeList = true
list_kind FixedSizeList = true
list_kind _ = false

-- a type is as one of its kind is
record Alike (t : Ty) (k : TypeKind) : Type 0 where
  pub nested : is_nested t ≡ nested_kind k
  pub map : is_map t ≡ map_kind k
  pub list : is_list t ≡ list_kind k

-- it is so for a kind that is told, if any is
abbrev AlikeAny : Ty → Option TypeKind → Type 0
AlikeAny t None = Unit {0}
AlikeAny t (Some k) = Alike t k

wraps : (w : Wrapper) (t : Ty) → is_nested t ≡ true → is_map t ≡ is_map_wrapper w → is_list t ≡ is_list_wrapper w → AlikeAny t (type_kind_of (wrapper_kind w))
wraps list t n m l = record { nested = n; map = m; list = l }
wraps large_list t n m l = record { nested = n; map = m; list = l }
wraps list_view t n m l = record { nested = n; map = m; list = l }
wraps large_list_view t n m l = record { nested = n; map = m; list = l }
wraps (fixed_size_list d) t n m l = record { nested = n; map = m; list = l }
wraps (map d) t n m l = record { nested = n; map = m; list = l }

by_view : (s : Sheet) (p : ℕ) → p < length (types_in s) → AlikeAny (type_at_place s p) (type_kind_of (type_record_at s p).kind)
by_view s p h = elim (type_view s p h) [
  | is_leaf k c n e ↦ subst (λ m. AlikeAny (type_at_place s p) (type_kind_of m)) (sym k) (record { nested = ap is_nested e; map = ap is_map e; list = ap is_list e })
  | is_struct k e ↦ subst (λ m. AlikeAny (type_at_place s p) (type_kind_of m)) (sym k) (record { nested = ap is_nested e; map = ap is_map e; list = ap is_list e })
  | is_wrap w k d c t n e ↦ subst (λ m. AlikeAny (type_at_place s p) (type_kind_of m)) (sym k) (wraps w (type_at_place s p) (ap is_nested e) (ap is_map e) (ap is_list e))
]

module _ (s : Sheet) (p : ℕ) (h : p < length (types_in s)) (k : TypeKind) (is : type_kind_of (type_record_at s p).kind ≡ Some k) where
  alike : Alike (type_at_place s p) k
  alike = subst (AlikeAny (type_at_place s p)) is (by_view s p h)

  pub is_nested_kind : k ≡ Leaf → false ≡ is_nested (type_at_place s p)
  is_nested_kind e = sym (alike.nested ∙ ap nested_kind e)

  pub is_other_kind : (k ≡ Leaf → ⊥) → true ≡ is_nested (type_at_place s p)
  is_other_kind n = sym (alike.nested ∙ go k n)
    where
      go : (k : TypeKind) → (k ≡ Leaf → ⊥) → nested_kind k ≡ true
      go Leaf n = absurd (n refl)
      go _ n = refl

  pub is_map_kind : k ≡ Map → true ≡ is_map (type_at_place s p)
  is_map_kind e = sym (alike.map ∙ ap map_kind e)

  pub no_map_kind : (k ≡ Map → ⊥) → false ≡ is_map (type_at_place s p)
  no_map_kind n = sym (alike.map ∙ go k n)
    where
      go : (k : TypeKind) → (k ≡ Map → ⊥) → map_kind k ≡ false
      go Map n = absurd (n refl)
      go _ n = refl

  pub is_list_kind : (k ≡ List) ⊎ ((k ≡ LargeList) ⊎ (k ≡ FixedSizeList)) → true ≡ is_list (type_at_place s p)
  is_list_kind e = sym (alike.list ∙ elim e [ inl a ↦ ap list_kind a | inr f ↦ elim f [ inl a ↦ ap list_kind a | inr a ↦ ap list_kind a ] ])

  pub no_list_kind : (k ≡ List → ⊥) → (k ≡ LargeList → ⊥) → (k ≡ FixedSizeList → ⊥) → false ≡ is_list (type_at_place s p)
  no_list_kind a b c = sym (alike.list ∙ go k a b c)
    where
      go : (k : TypeKind) → (k ≡ List → ⊥) → (k ≡ LargeList → ⊥) → (k ≡ FixedSizeList → ⊥) → list_kind k ≡ false
      go List a b c = absurd (a refl)
      go LargeList a b c = absurd (b refl)
      go FixedSizeList a b c = absurd (c refl)
      go _ a b c = refl
