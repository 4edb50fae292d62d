-- The trees of types that a sheet can have: leaves, Structs, and wrappers of one item. Assumes nothing.
use Rattle.std.proofs.Common.{◌≡◌, ℕ, zero, suc, ◌+◌, ◌<◌, ◌≤◌, true, cond, ltb, List, length, sym, ap, ◌∙◌, subst, arith}
use Rattle.std.proofs.lemmas.Bool.{and_parts, leb-true, eqb-true}
use Rattle.rules.specs.Preorder.{fills}
use Rattle.rules.specs.Trees.{Tree, node, Forest, none, more, label, count, whole}
use Rattle.rules.specs.Types.{Wrapper, leaf, struct, wrap, wrapper_kind, wrapper_detail}
use Rattle.rules.proofs.Rows.{fills_next}
use Rattle.rules.proofs.Walks.{fills_forward}
use Rattle.format.specs.declared.records.TypeRecord.{TypeRecord}
use Rattle.format.specs.Records.{name_bytes}
use Rattle.sheet.specs.declared.sheet.Sheet.{Sheet}
use Rattle.sheet.specs.Seen.{names_in, types_in}
use Rattle.sheet.specs.SheetTrees.{type_tree, type_of, fields_of, is_nullable}
use Rattle.sheet.specs.SheetExpressions.{type_at_place}
use Rattle.sheet.proofs.Sheets.{type_count_lem, type_label, type_stands}
use Rattle.sheet.proofs.Readers.{type_record_at, type_span, type_row, type_unrolled, type_row_more, type_children_fill, type_span_some, type_span_within, type_view, is_leaf, is_struct, is_wrap}

mutual
  pub data Fair (names : List ℕ) : Tree TypeRecord → Type 0 where
    fair_leaf : (r : TypeRecord) → r.nullable ≤ 1 → r.children ≡ 0 → r.kind ≡ 1 → type_of names (node r none) ≡ leaf r.detail → Fair names (node r none)
    fair_struct : (r : TypeRecord) (f : Forest TypeRecord) → r.nullable ≤ 1 → r.children ≡ count f → r.kind ≡ 2 → type_of names (node r f) ≡ struct (fields_of names f) → Fairs names f → Fair names (node r f)
    fair_wrap : (r : TypeRecord) (t : Tree TypeRecord) (w : Wrapper) → r.nullable ≤ 1 → r.children ≡ 1 → r.kind ≡ wrapper_kind w → wrapper_detail w ≡ cond (ltb r.kind 7) 0 r.detail
        → type_of names (node r (more t none)) ≡ wrap w (name_bytes names (label t).name) (is_nullable names (label t)) (type_of names t) → Fair names t → Fair names (node r (more t none))

  pub data Fairs (names : List ℕ) : Forest TypeRecord → Type 0 where
    none_fair : Fairs names none
    more_fair : (t : Tree TypeRecord) (f : Forest TypeRecord) → Fair names t → Fairs names f → Fairs names (more t f)

module _ (s : Sheet) where
  abbrev ns : List ℕ
  ns = names_in s

  nullable_low : (p : ℕ) → p < length (types_in s) → (type_record_at s p).nullable ≤ 1
  nullable_low p h = leb-true _ _ (and_parts _ _ (and_parts _ _ (and_parts _ _ (s.types p (omega (arith, type_count_lem s)))).0).1).0

  row_count : (p : ℕ) → p < length (types_in s) → (type_record_at s p).children ≡ count (type_row s (type_record_at s p).children (p + 1))
  row_count p h =
      let w = subst (λ t. whole (λ (r : TypeRecord). r.children) t ≡ true) (type_unrolled s p h) (type_stands s p h).counted in
      sym (eqb-true _ _ (and_parts _ _ w).0)

  fairs_by : (n : ℕ) → ((p : ℕ) → p < length (types_in s) → type_span s p ≤ n → Fair ns (type_tree s p)) → (m p e : ℕ) → fills (type_span s) m p e ≡ true → e ≤ length (types_in s) → e ≤ p + n → Fairs ns (type_row s m p)
  fairs_by n each zero p e f l small = none_fair
  fairs_by n each (suc m) p e f l small =
      let next = fills_next (type_span s) m p e f in
      let on = fills_forward (type_span s) m (p + type_span s p) e next.1 in
      let there : p < length (types_in s) = omega (arith, next.0) in
      subst (Fairs ns) (sym (type_row_more s m p there)) (more_fair (type_tree s p) (type_row s m (p + type_span s p)) (each p there (omega arith)) (fairs_by n each m (p + type_span s p) e next.1 l (omega arith)))

  fair_by : (n p : ℕ) → p < length (types_in s) → type_span s p ≤ n → Fair ns (type_tree s p)
  fair_by zero p h small = absurd (omega (arith, type_span_some s p h))
  fair_by (suc n) p h small =
      let e = type_unrolled s p h in
      let r = type_record_at s p in
      elim (type_view s p h) [
        | is_leaf k c w t ↦
            let e2 : type_tree s p ≡ node r none = e ∙ ap (λ m. node r (type_row s m (p + 1))) c in
            subst (Fair ns) (sym e2) (fair_leaf r (nullable_low p h) c k (ap (type_of ns) (sym e2) ∙ t))
        | is_struct k t ↦
            subst (Fair ns) (sym e) (fair_struct r (type_row s r.children (p + 1)) (nullable_low p h) (row_count p h) k (ap (type_of ns) (sym e) ∙ t)
            (fairs_by n (fair_by n) r.children (p + 1) (p + type_span s p) (type_children_fill s p h) (type_span_within s p h) (omega arith)))
        | is_wrap w k d c there spans t ↦
            let e2 : type_tree s p ≡ node r (more (type_tree s (p + 1)) none) = e ∙ ap (λ m. node r (type_row s m (p + 1))) c ∙ ap (node r) (type_row_more s 0 (p + 1) there) in
            let named : type_at_place s p ≡ wrap w (name_bytes ns (label (type_tree s (p + 1))).name) (is_nullable ns (label (type_tree s (p + 1)))) (type_at_place s (p + 1)) = t ∙ ap (λ (x : TypeRecord). wrap w (name_bytes ns x.name) (is_nullable ns x) (type_at_place s (p + 1))) (sym (type_label s (p + 1) there)) in
            subst (Fair ns) (sym e2) (fair_wrap r (type_tree s (p + 1)) w (nullable_low p h) c k d (ap (type_of ns) (sym e2) ∙ named) (fair_by n (p + 1) there (omega arith)))
      ]

  -- the tree at each place is fair
  pub fair : (p : ℕ) → p < length (types_in s) → Fair ns (type_tree s p)
  fair p h = fair_by (type_span s p) p h (omega arith)
