-- Two types of a sheet, compared record by record. Assumes nothing.
use Rattle.std.proofs.Common.{◌≡◌, ℕ, zero, suc, ◌+◌, ◌-◌, ◌<◌, true, false, ◌&&◌, ◌∷◌, length, get_or, drop, sym, refl, ap, ◌∙◌, inl, inr, arith}
use Rattle.std.proofs.lemmas.List.{drop_more, drop_all, drop-drop, get_or_past}
use Rattle.std.proofs.lemmas.Bool.{cases_lt}
use Rattle.std.specs.List.{range_with_len, list_all}
use Rattle.rules.specs.Trees.{preorder, size, label}
use Rattle.rules.specs.Types.{same_type}
use Rattle.rules.proofs.Forests.{length-preorder}
use Rattle.format.specs.declared.records.TypeRecord.{TypeRecord}
use Rattle.format.specs.Records.{no_type}
use Rattle.sheet.specs.declared.sheet.Sheet.{Sheet}
use Rattle.sheet.specs.Seen.{names_in, types_in}
use Rattle.sheet.specs.SheetTrees.{type_tree}
use Rattle.sheet.specs.SheetExpressions.{type_at_place}
use Rattle.sheet.proofs.Sheets.{type_label, type_stands, type_size, type_within}
use Rattle.sheet.proofs.Readers.{type_record_at, is_leaf, is_struct, is_wrap, type_view, type_span_some}
use Rattle.nested.specs.Alike.{same_top, same_field}
use Rattle.nested.proofs.Counting.{wrapper_high, in_span}
use Rattle.nested.proofs.FairTypes.{fair}
use Rattle.nested.proofs.SameTypes.{alike, tops_differ, tops_same, no_kind}

module _ (s : Sheet) (p q : ℕ) (hp : p < length (types_in s)) (hq : q < length (types_in s)) where
  some_kind : (o : ℕ) → o < length (types_in s) → (type_record_at s o).kind ≡ 0 → ⊥
  some_kind o h e = elim (type_view s o h) [
    | is_leaf k c w t ↦ omega (arith, k, e)
    | is_struct k t ↦ omega (arith, k, e)
    | is_wrap w k d c there spans t ↦ omega (arith, k, e, wrapper_high w)
  ]

  module _ (a b : TypeRecord) (ea : a ≡ type_record_at s p) (eb : b ≡ type_record_at s q) where
    labels : same_top (label (type_tree s p)) (label (type_tree s q)) ≡ same_top a b
    labels = λ i. same_top ((type_label s p hp ∙ sym ea) i) ((type_label s q hq ∙ sym eb) i)

    pub other_tops : false ≡ same_top a b → false ≡ same_type (type_at_place s p) (type_at_place s q)
    other_tops e = tops_differ (names_in s) (type_tree s p) (type_tree s q) (fair s p hp) (fair s q hq) (labels ∙ sym e)

    same_tops : true ≡ same_top a b → same_type (type_at_place s p) (type_at_place s q) ≡ alike (names_in s) (drop 1 (preorder (type_tree s p))) (drop (q + 1) (types_in s))
    same_tops e =
        tops_same (names_in s) (type_tree s p) (type_tree s q) (fair s p hp) (fair s q hq) (drop (q + size (type_tree s q)) (types_in s)) (labels ∙ sym e)
        ∙ ap (λ w. alike (names_in s) (drop 1 (preorder (type_tree s p))) w) (ap (drop 1) (type_stands s q hq).written ∙ drop-drop 1 q (types_in s))

  module _ (span : ℕ) (spans : span ≡ (type_record_at s p).span) (k : ℕ) where
    long : length (preorder (type_tree s p)) ≡ span
    long = length-preorder (type_tree s p) ∙ sym (type_size s p hp) ∙ sym spans

    module _ (l : k < span) (x y : TypeRecord) (ex : x ≡ get_or (types_in s) (p + k) no_type) (ey : y ≡ get_or (types_in s) (q + k) no_type) where
      short : k < size (type_tree s p)
      short = omega (arith, type_size s p hp)

      first : drop k (preorder (type_tree s p)) ≡ x ∷ drop (k + 1) (preorder (type_tree s p))
      first = drop_more (preorder (type_tree s p)) k no_type (omega (arith, long)) ∙ ap (λ r. r ∷ drop (k + 1) (preorder (type_tree s p))) (in_span s p hp k short ∙ sym ex)

      step : alike (names_in s) (drop k (preorder (type_tree s p))) (drop (q + k) (types_in s)) ≡ (same_field (names_in s) x y && alike (names_in s) (drop (k + 1) (preorder (type_tree s p))) (drop (q + (k + 1)) (types_in s)))
      step = elim (cases_lt (q + k) (length (types_in s))) [
        | inl h ↦
            let z : q + k + 1 ≡ q + (k + 1) = omega arith in
            let second : drop (q + k) (types_in s) ≡ y ∷ drop (q + (k + 1)) (types_in s) = drop_more (types_in s) (q + k) no_type h ∙ (λ i. sym ey i ∷ drop (z i) (types_in s)) in
            λ i. alike (names_in s) (first i) (second i)
        | inr h ↦
            let blank : y ≡ no_type = ey ∙ get_or_past (types_in s) (q + k) no_type h in
            let kind : x.kind ≡ y.kind → ⊥ = λ e. some_kind (p + k) (omega (arith, type_within s p hp, short)) (ap (λ (r : TypeRecord). r.kind) (sym ex) ∙ e ∙ ap (λ (r : TypeRecord). r.kind) blank) in
            (λ i. alike (names_in s) (first i) (drop_all (q + k) (types_in s) h i))
            ∙ sym (ap (λ w. w && alike (names_in s) (drop (k + 1) (preorder (type_tree s p))) (drop (q + (k + 1)) (types_in s))) (no_kind x y kind (names_in s)))
      ]

  -- record by record
  each_same : (span : ℕ) → span ≡ (type_record_at s p).span → (n k : ℕ) → k + n ≡ span
      → alike (names_in s) (drop k (preorder (type_tree s p))) (drop (q + k) (types_in s)) ≡ list_all (λ m. same_field (names_in s) (get_or (types_in s) (p + m) no_type) (get_or (types_in s) (q + m) no_type)) (range_with_len k n)
  each_same span e zero k z = ap (λ w. alike (names_in s) w (drop (q + k) (types_in s))) (drop_all k (preorder (type_tree s p)) (omega (arith, long span e k)))
  each_same span e (suc n) k z =
      step span e k (omega arith) _ _ refl refl ∙ ap (λ b. same_field (names_in s) (get_or (types_in s) (p + k) no_type) (get_or (types_in s) (q + k) no_type) && b) (each_same span e n (k + 1) (omega arith))

  pub all_same : (a b : TypeRecord) → a ≡ type_record_at s p → b ≡ type_record_at s q → true ≡ same_top a b
      → list_all (λ m. same_field (names_in s) (get_or (types_in s) (p + m) no_type) (get_or (types_in s) (q + m) no_type)) (range_with_len 1 (a.span - 1)) ≡ same_type (type_at_place s p) (type_at_place s q)
  all_same a b ea eb e =
      let spans = ap (λ (r : TypeRecord). r.span) ea in
      sym (same_tops a b ea eb e ∙ each_same a.span spans (a.span - 1) 1 (omega (arith, spans, type_span_some s p hp)))
