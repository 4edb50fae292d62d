-- What two types are whose kinds pair up. Assumes nothing.
use Rattle.std.proofs.Common.{◌≡◌, ℕ, ◌+◌, ◌<◌, Bool, true, false, cond, ◌&&◌, length, Some, sym, refl, ap, ◌∙◌, subst}
use Rattle.rules.specs.Findings.{is_nested_cast}
use Rattle.rules.specs.Keeping.{all, within, clipped}
use Rattle.rules.specs.Types.{Wrapper, list, large_list, list_view, large_list_view, fixed_size_list, map, Ty, struct, wrap, both_lists, wrapper_kind}
use Rattle.sheet.specs.declared.sheet.Sheet.{Sheet}
use Rattle.sheet.specs.Seen.{types_in}
use Rattle.sheet.specs.SheetExpressions.{type_at_place}
use Rattle.sheet.proofs.Readers.{type_record_at, type_span, fields_at, name_at, nullable_at, TypeView, is_leaf, is_struct, is_wrap, type_view}
use Rattle.nested.specs.declared.pairs.Pair.{Pair}
use Rattle.nested.specs.declared.pairs.Pair.TheVariants.{Structs, Lists, Others}
use Rattle.nested.specs.PairKinds.{pair_of}
use Rattle.format.specs.declared.kinds.TypeKind.TheVariants.{Leaf, Struct}
use Rattle.format.specs.Kinds.{type_kind_of}

-- two wrappers are lists of one kind, or others
pub both : (w v : Wrapper) → pair_of (type_kind_of (wrapper_kind w)) (type_kind_of (wrapper_kind v)) ≡ cond (both_lists w v) Lists Others
both list list = refl
both list large_list = refl
both list list_view = refl
both list large_list_view = refl
both list (fixed_size_list n) = refl
both list (map d) = refl
both large_list list = refl
both large_list large_list = refl
both large_list list_view = refl
both large_list large_list_view = refl
both large_list (fixed_size_list n) = refl
both large_list (map d) = refl
both list_view v = refl
both large_list_view v = refl
both (fixed_size_list n) v = refl
both (map d) v = refl

before_leaf : (w : Wrapper) → pair_of (type_kind_of (wrapper_kind w)) (Some Leaf) ≡ Others
before_leaf list = refl
before_leaf large_list = refl
before_leaf list_view = refl
before_leaf large_list_view = refl
before_leaf (fixed_size_list n) = refl
before_leaf (map d) = refl

before_struct : (w : Wrapper) → pair_of (type_kind_of (wrapper_kind w)) (Some Struct) ≡ Others
before_struct list = refl
before_struct large_list = refl
before_struct list_view = refl
before_struct large_list_view = refl
before_struct (fixed_size_list n) = refl
before_struct (map d) = refl

behind_struct : (w : Wrapper) → pair_of (Some Struct) (type_kind_of (wrapper_kind w)) ≡ Others
behind_struct list = refl
behind_struct large_list = refl
behind_struct list_view = refl
behind_struct large_list_view = refl
behind_struct (fixed_size_list n) = refl
behind_struct (map d) = refl

module _ (s : Sheet) (p g : ℕ) where
  abbrev kp : ℕ
  kp = (type_record_at s p).kind

  abbrev kg : ℕ
  kg = (type_record_at s g).kind

  pub record AreStructs : Type 0 where
    pub here : type_at_place s p ≡ struct (fields_at s (type_record_at s p).children (p + 1))
    pub there : type_at_place s g ≡ struct (fields_at s (type_record_at s g).children (g + 1))

  pub record AreLists : Type 0 where
    pub w : Wrapper
    pub v : Wrapper
    pub alike : both_lists w v ≡ true
    pub one : (type_record_at s p).children ≡ 1
    pub item : p + 1 < length (types_in s)
    pub goal : g + 1 < length (types_in s)
    pub span : type_span s p ≡ 1 + type_span s (p + 1)
    pub here : type_at_place s p ≡ wrap w (name_at s (p + 1)) (nullable_at s (p + 1)) (type_at_place s (p + 1))
    pub there : type_at_place s g ≡ wrap v (name_at s (g + 1)) (nullable_at s (g + 1)) (type_at_place s (g + 1))

  pub record AreOthers : Type 0 where
    pub kept : clipped (type_at_place s p) (type_at_place s g) ≡ all
    pub cast : is_nested_cast (type_at_place s p) (type_at_place s g) ≡ false

  -- what they are, by their kinds
  abbrev pub Are : Pair → Type 0
  Are Structs = AreStructs
  Are Lists = AreLists
  Are Others = AreOthers

  abbrev pub pair_at : Pair
  pair_at = pair_of (type_kind_of kp) (type_kind_of kg)

module _ (s : Sheet) (p g : ℕ) (hp : p < length (types_in s)) (hg : g < length (types_in s)) where
  -- what holds of both types holds of what they are
  moved : (t u : Ty) → type_at_place s p ≡ t → type_at_place s g ≡ u → clipped t u ≡ all → is_nested_cast t u ≡ false → AreOthers s p g
  moved t u a b k c = record { kept = (λ i. clipped (a i) (b i)) ∙ k; cast = (λ i. is_nested_cast (a i) (b i)) ∙ c }

  wraps : (w v : Wrapper) → (x : Bool) → both_lists w v ≡ x
      → (type_record_at s p).children ≡ 1 → p + 1 < length (types_in s) → g + 1 < length (types_in s) → type_span s p ≡ 1 + type_span s (p + 1)
      → type_at_place s p ≡ wrap w (name_at s (p + 1)) (nullable_at s (p + 1)) (type_at_place s (p + 1))
      → type_at_place s g ≡ wrap v (name_at s (g + 1)) (nullable_at s (g + 1)) (type_at_place s (g + 1)) → Are s p g (cond x Lists Others)
  wraps w v true e c a b spans t u = record { w = w; v = v; alike = e; one = c; item = a; goal = b; span = spans; here = t; there = u }
  wraps w v false e c a b spans t u =
      moved _ _ t u (ap (λ b. cond b (within (clipped (type_at_place s (p + 1)) (type_at_place s (g + 1)))) all) e) (ap (λ b. b && is_nested_cast (type_at_place s (p + 1)) (type_at_place s (g + 1))) e)

  -- the kinds that the records have, in place of the numbers that they are
  at_kinds : {k j : ℕ} → kp s p g ≡ k → kg s p g ≡ j → Are s p g (pair_of (type_kind_of k) (type_kind_of j)) → Are s p g (pair_at s p g)
  at_kinds a b = subst (Are s p g) (λ i. pair_of (type_kind_of (sym a i)) (type_kind_of (sym b i)))

  pair_view : TypeView s p → TypeView s g → Are s p g (pair_at s p g)
  pair_view (is_leaf k c w t) u = at_kinds k refl (record { kept = ap (λ x. clipped x (type_at_place s g)) t; cast = ap (λ x. is_nested_cast x (type_at_place s g)) t })
  pair_view (is_struct k t) (is_leaf k2 c2 w2 t2) = at_kinds k k2 (moved _ _ t t2 refl refl)
  pair_view (is_struct k t) (is_struct k2 t2) = at_kinds k k2 (record { here = t; there = t2 })
  pair_view (is_struct k t) (is_wrap v k2 d2 c2 there2 spans2 t2) = at_kinds k k2 (subst (Are s p g) (sym (behind_struct v)) (moved _ _ t t2 refl refl))
  pair_view (is_wrap w k d c there spans t) (is_leaf k2 c2 w2 t2) = at_kinds k k2 (subst (Are s p g) (sym (before_leaf w)) (moved _ _ t t2 refl refl))
  pair_view (is_wrap w k d c there spans t) (is_struct k2 t2) = at_kinds k k2 (subst (Are s p g) (sym (before_struct w)) (moved _ _ t t2 refl refl))
  pair_view (is_wrap w k d c there spans t) (is_wrap v k2 d2 c2 there2 spans2 t2) =
      at_kinds k k2 (subst (Are s p g) (sym (both w v)) (wraps w v (both_lists w v) refl c there there2 spans t t2))

  -- the pair that was found is the pair there
  pub are : {x : Pair} → x ≡ pair_at s p g → Are s p g x
  are e = subst (Are s p g) (sym e) (pair_view (type_view s p hp) (type_view s g hg))

  -- a pair of lists is cast as their items are
  pub cast_items : AreLists s p g → is_nested_cast (type_at_place s p) (type_at_place s g) ≡ is_nested_cast (type_at_place s (p + 1)) (type_at_place s (g + 1))
  cast_items l = (λ i. is_nested_cast (l.here i) (l.there i)) ∙ ap (λ b. b && is_nested_cast (type_at_place s (p + 1)) (type_at_place s (g + 1))) l.alike

  pub cast_structs : AreStructs s p g → true ≡ is_nested_cast (type_at_place s p) (type_at_place s g)
  cast_structs l = sym (λ i. is_nested_cast (l.here i) (l.there i))
