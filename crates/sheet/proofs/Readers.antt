-- What a reader of types knows at each place. Assumes nothing.
use Rattle.std.proofs.Common.{◌≡◌, ℕ, suc, ◌+◌, ◌<◌, ◌≤◌, Bool, true, false, cond, eqb, ltb, length, get_or, Some, None, Option, sym, refl, ap, ◌∙◌, subst, arith}
use Rattle.std.proofs.lemmas.Bool.{and_parts, eqb-true}
use Rattle.rules.specs.Names.{Name}
use Rattle.rules.specs.Preorder.{fills}
use Rattle.rules.specs.Trees.{node, Forest, more}
use Rattle.rules.specs.Types.{Wrapper, list, large_list, list_view, large_list_view, fixed_size_list, map, leaf, struct, wrap, Fields, field, wrapper_kind, wrapper_detail}
use Rattle.rules.proofs.Rows.{row_at, unrolled, row_more, children_fill_lem, span_some, span_within, fills_next, fills_none}
use Rattle.format.specs.declared.kinds.TypeKind.{TypeKind}
use Rattle.format.specs.declared.kinds.TypeKind.TheVariants.{Leaf, Struct, List as ListKind, LargeList, ListView, LargeListView, FixedSizeList, Map}
use Rattle.format.specs.declared.records.TypeRecord.{TypeRecord}
use Rattle.format.specs.Good.{type_children}
use Rattle.format.specs.Kinds.{type_kind_of}
use Rattle.format.specs.Records.{no_type, name_bytes}
use Rattle.sheet.specs.declared.sheet.Sheet.{Sheet}
use Rattle.sheet.specs.Seen.{names_in, types_in}
use Rattle.sheet.specs.SheetTrees.{type_tree, type_of, fields_of, by_kind, wrapped, is_nullable}
use Rattle.sheet.specs.SheetExpressions.{type_at_place}
use Rattle.sheet.proofs.Sheets.{type_count_lem, types_placed, type_label}

pub by_test : {A : Type 0} (P : A → Type 0) (b : Bool) {x y : A} → (b ≡ true → P x) → (b ≡ false → P y) → P (cond b x y)
by_test P true f g = f refl
by_test P false f g = g refl

-- a kind is one of the eight, or none
pub by_type_kind : (P : Option TypeKind → Type 0) (k : ℕ) → (k ≡ 1 → P (Some Leaf)) → (k ≡ 2 → P (Some Struct)) → (k ≡ 3 → P (Some ListKind)) → (k ≡ 4 → P (Some LargeList)) → (k ≡ 5 → P (Some ListView)) → (k ≡ 6 → P (Some LargeListView)) → (k ≡ 7 → P (Some FixedSizeList)) → (k ≡ 8 → P (Some Map)) → P None → P (type_kind_of k)
by_type_kind P k a b c d e f g h i =
    by_test P (eqb k 1) (λ t. a (eqb-true k 1 t)) (λ _. by_test P (eqb k 2) (λ t. b (eqb-true k 2 t)) (λ _. by_test P (eqb k 3) (λ t. c (eqb-true k 3 t)) (λ _.
    by_test P (eqb k 4) (λ t. d (eqb-true k 4 t)) (λ _. by_test P (eqb k 5) (λ t. e (eqb-true k 5 t)) (λ _. by_test P (eqb k 6) (λ t. f (eqb-true k 6 t)) (λ _.
    by_test P (eqb k 7) (λ t. g (eqb-true k 7 t)) (λ _. by_test P (eqb k 8) (λ t. h (eqb-true k 8 t)) (λ _. i))))))))

module _ (s : Sheet) where
  abbrev pub type_record_at : ℕ → TypeRecord
  type_record_at p = get_or (types_in s) p no_type

  abbrev pub type_span : ℕ → ℕ
  type_span p = (type_record_at p).span

  -- n types side by side from a place on, and the fields that they are
  abbrev pub type_row : ℕ → ℕ → Forest TypeRecord
  type_row n p = row_at (λ t. t.children) (λ t. t.span) no_type (types_in s) 32 n p

  abbrev pub fields_at : ℕ → ℕ → Fields
  fields_at n p = fields_of (names_in s) (type_row n p)

  abbrev pub name_at : ℕ → Name
  name_at p = name_bytes (names_in s) (type_record_at p).name

  abbrev pub nullable_at : ℕ → Bool
  nullable_at p = is_nullable (names_in s) (type_record_at p)

  -- a type is the record at its place with its children, which stand side by side from the next place on
  pub type_unrolled : (p : ℕ) → p < length (types_in s) → type_tree s p ≡ node (type_record_at p) (type_row (type_record_at p).children (p + 1))
  type_unrolled = unrolled (λ (t : TypeRecord). t.children) (λ t. t.span) no_type (types_in s) 32 (types_placed s)

  pub type_row_more : (n p : ℕ) → p < length (types_in s) → type_row (suc n) p ≡ more (type_tree s p) (type_row n (p + type_span p))
  type_row_more = row_more (λ (t : TypeRecord). t.children) (λ t. t.span) no_type (types_in s) 32 (types_placed s)

  pub type_children_fill : (p : ℕ) → p < length (types_in s) → fills type_span (type_record_at p).children (p + 1) (p + type_span p) ≡ true
  type_children_fill = children_fill_lem (λ (t : TypeRecord). t.children) (λ t. t.span) no_type (types_in s) 32 (types_placed s)

  pub type_span_some : (p : ℕ) → p < length (types_in s) → 0 < type_span p
  type_span_some = span_some (λ (t : TypeRecord). t.children) (λ t. t.span) no_type (types_in s) 32 (types_placed s)

  pub type_span_within : (p : ℕ) → p < length (types_in s) → p + type_span p ≤ length (types_in s)
  type_span_within = span_within (λ (t : TypeRecord). t.children) (λ t. t.span) no_type (types_in s) 32 (types_placed s)

  -- the first of several fields, and those behind it
  pub fields_more : (n p : ℕ) → p < length (types_in s) → fields_at (suc n) p ≡ field (name_at p) (nullable_at p) (type_at_place s p) (fields_at n (p + type_span p))
  fields_more n p h =
      ap (fields_of (names_in s)) (type_row_more n p h)
      ∙ ap (λ (t : TypeRecord). field (name_bytes (names_in s) t.name) (is_nullable (names_in s) t) (type_at_place s p) (fields_at n (p + type_span p))) (type_label s p h)

  -- What stands at a place: a leaf, a Struct, or a wrapper whose item stands right behind it.
  pub data TypeView (p : ℕ) : Type 0 where
    is_leaf : (type_record_at p).kind ≡ 1 → (type_record_at p).children ≡ 0 → type_span p ≡ 1 → type_at_place s p ≡ leaf (type_record_at p).detail → TypeView p
    is_struct : (type_record_at p).kind ≡ 2 → type_at_place s p ≡ struct (fields_at (type_record_at p).children (p + 1)) → TypeView p
    is_wrap : (w : Wrapper) → (type_record_at p).kind ≡ wrapper_kind w → wrapper_detail w ≡ cond (ltb (type_record_at p).kind 7) 0 (type_record_at p).detail
        → (type_record_at p).children ≡ 1 → p + 1 < length (types_in s) → type_span p ≡ 1 + type_span (p + 1)
        → type_at_place s p ≡ wrap w (name_at (p + 1)) (nullable_at (p + 1)) (type_at_place s (p + 1)) → TypeView p

  module _ (p : ℕ) (h : p < length (types_in s)) where
    abbrev r : TypeRecord
    r = type_record_at p

    abbrev behind : TypeRecord
    behind = get_or (types_in s) (p + 1) no_type

    -- the record keeps its kind's rule on children
    pub type_kind_fits : type_children (type_kind_of r.kind) r.children behind ≡ true
    type_kind_fits = (and_parts _ _ (and_parts _ _ (s.types p (omega (arith, type_count_lem s)))).0).0

    is_it : type_at_place s p ≡ by_kind (names_in s) (type_kind_of r.kind) r.detail (fields_at r.children (p + 1))
    is_it = ap (type_of (names_in s)) (type_unrolled p h)

    inside : p + type_span p ≤ length (types_in s)
    inside = type_span_within p h

    wraps : (w : Wrapper) → r.kind ≡ wrapper_kind w → wrapper_detail w ≡ cond (ltb r.kind 7) 0 r.detail → eqb r.children 1 ≡ true
        → type_at_place s p ≡ wrapped (names_in s) w (fields_at r.children (p + 1)) → TypeView p
    wraps w k d one e =
        let n : r.children ≡ 1 = eqb-true _ _ one in
        let f : fills type_span 1 (p + 1) (p + type_span p) ≡ true = subst (λ m. fills type_span m (p + 1) (p + type_span p) ≡ true) n (type_children_fill p h) in
        let next = fills_next type_span 0 (p + 1) (p + type_span p) f in
        let there : p + 1 < length (types_in s) = omega (arith, next.0, inside) in
        let last = fills_none type_span (p + 1 + type_span (p + 1)) (p + type_span p) next.1 in
        is_wrap w k d n there (omega (arith, last)) (e ∙ ap (λ m. wrapped (names_in s) w (fields_at m (p + 1))) n ∙ ap (wrapped (names_in s) w) (fields_more 0 (p + 1) there))

    pub type_view : TypeView p
    type_view =
        by_type_kind (λ o. type_kind_of r.kind ≡ o → type_children o r.children behind ≡ true → type_at_place s p ≡ by_kind (names_in s) o r.detail (fields_at r.children (p + 1)) → TypeView p) r.kind
        (λ k _ c e. let n : r.children ≡ 0 = eqb-true _ _ c in
        let f : fills type_span 0 (p + 1) (p + type_span p) ≡ true = subst (λ m. fills type_span m (p + 1) (p + type_span p) ≡ true) n (type_children_fill p h) in
        let last = fills_none type_span (p + 1) (p + type_span p) f in
        is_leaf k n (omega (arith, last)) e)
        (λ k _ c e. is_struct k e)
        (λ k _ c e. wraps list k (detail 3 k 0 refl) c e)
        (λ k _ c e. wraps large_list k (detail 4 k 0 refl) c e)
        (λ k _ c e. wraps list_view k (detail 5 k 0 refl) c e)
        (λ k _ c e. wraps large_list_view k (detail 6 k 0 refl) c e)
        (λ k _ c e. wraps (fixed_size_list r.detail) k (detail 7 k r.detail refl) c e)
        (λ k _ c e. wraps (map r.detail) k (detail 8 k r.detail refl) (and_parts _ _ c).0 e)
        (λ _ c e. absurd (never c)) refl type_kind_fits is_it
      where
        never : false ≡ true → ⊥
        never e = let z : ◌≡◌ {A = ℕ} 0 1 = ap (λ b. cond b 1 0) e in omega arith

        detail : (k : ℕ) → r.kind ≡ k → (d : ℕ) → d ≡ cond (ltb k 7) 0 r.detail → d ≡ cond (ltb r.kind 7) 0 r.detail
        detail k e d q = q ∙ ap (λ m. cond (ltb m 7) 0 r.detail) (sym e)
