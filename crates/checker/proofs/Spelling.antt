-- The path that text literals spell, one after the other. Assumes nothing.
use Rattle.std.proofs.Common.{◌≡◌, ℕ, zero, suc, ◌+◌, ◌-◌, ◌<◌, ◌≤◌, Bool, true, false, ◌&&◌, List, [], ◌∷◌, ◌++◌, map, length, Some, None, Option, sym, refl, ap, ◌∙◌, subst, inl, inr, append_assoc, append-nil, arith}
use Rattle.std.proofs.lemmas.List.{map_push}
use Rattle.std.proofs.lemmas.Bool.{both_ways, cases_lt}
use Rattle.std.specs.Bool.{then_some}
use Rattle.std.specs.List.{range_with_len, list_all}
use Rattle.std.specs.Option.{option_map}
use Rattle.rules.specs.Names.{Name}
use Rattle.rules.specs.Preorder.{fills}
use Rattle.rules.specs.Expressions.{Exprs, before, path_of}
use Rattle.rules.proofs.Written.{counting_more}
use Rattle.sheet.specs.declared.sheet.Sheet.{Sheet}
use Rattle.sheet.specs.Seen.{nodes_in}
use Rattle.sheet.specs.SheetExpressions.{expr_at}
use Rattle.sheet.proofs.NodeReaders.{node_record_at, node_span, exprs_at, node_children_fill, node_span_within}
use Rattle.access.specs.Accesses.{node_name}
use Rattle.checker.specs.Visits.{is_text_at, arguments_of, first_is_column, behind_first, texts_at, Spelt}
use Rattle.checker.proofs.Places.{Left, left, step, over_none}
use Rattle.checker.proofs.NodeTests.{arguments_are, column_span, text_yes, text_no}

-- a path behind what was spelt
abbrev onto : List Name → Option (List Name) → Option (List Name)
onto xs o = option_map (λ q. xs ++ q) o

onto_one : (xs : List Name) (n : Name) (o : Option (List Name)) → onto xs (before (Some n) o) ≡ onto (xs ++ n ∷ []) o
onto_one xs n None = refl
onto_one xs n (Some q) = ap Some (sym (append_assoc xs (n ∷ []) q))

onto_nil : (o : Option (List Name)) → onto [] o ≡ o
onto_nil None = refl
onto_nil (Some q) = refl

module _ (s : Sheet) where
  -- the texts from first on were spelt, and the arguments that are left go on
  record Spelling (es : Exprs) (first at end : ℕ) : Type 0 where
    pub seen : ℕ
    pub stands : at ≡ first + seen
    pub rest : Left s at end
    pub same : path_of es ≡ onto (texts_at s first seen) (path_of (left s at end rest))

  -- a place that goes by another name
  moved : (p q e : ℕ) → p ≡ q → (l : Left s p e) → (m : Left s q e) × (left s q e m ≡ left s p e l)
  moved p q e same l = (record { count = l.count; filled = subst (λ x. fills (node_span s) l.count x e ≡ true) same l.filled; within = l.within }, ap (exprs_at s l.count) (sym same))

  -- where its first argument is a column, the others of an expression begin at the next place but one
  module _ (p : ℕ) (h : p < length (nodes_in s)) (column : first_is_column (arguments_of (expr_at s p)) ≡ true) where
    abbrev end : ℕ
    end = p + node_span s p

    abbrev all : Left s (p + 1) end
    all = record { count = (node_record_at s p).children; filled = node_children_fill s p h; within = node_span_within s p h }

    some : p + 1 < end
    some = elim (cases_lt (p + 1) end) [
      | inl l ↦ l
      | inr g ↦ absurd (both_ways _ (ap first_is_column (arguments_are s p h ∙ over_none s (p + 1) end g all)) column)
    ]

    spell_start : Spelling (behind_first (arguments_of (expr_at s p))) (p + 2) (p + 2) end
    spell_start =
        let st = step s (p + 1) end some all in
        let there : p + 1 < length (nodes_in s) = omega (arith, node_span_within s p h, some) in
        let are = arguments_are s p h ∙ st.here in
        let one = column_span s (p + 1) there (sym (ap first_is_column are) ∙ column) in
        let m = moved (p + 1 + node_span s (p + 1)) (p + 2) end (omega arith) st.over in
        record {
          seen = 0;
          stands = omega arith;
          rest = m.0;
          same = ap (λ w. path_of (behind_first w)) are ∙ ap path_of (sym m.1) ∙ sym (onto_nil (path_of (left s (p + 2) end m.0)));
        }

    pub spell_room : p + 2 ≤ end
    spell_room = omega (arith, some)

  module _ (es : Exprs) (first at end : ℕ) (g : Spelling es first at end) where
    spell_on : at < end → is_text_at s at ≡ true → Spelling es first (at + 1) end
    spell_on h t =
        let st = step s at end h g.rest in
        let there : at < length (nodes_in s) = omega (arith, g.rest.within) in
        let text = text_yes s at there t in
        let m = moved (at + node_span s at) (at + 1) end (omega (arith, text.0)) st.over in
        let xs = texts_at s first g.seen in
        let more : texts_at s first (g.seen + 1) ≡ xs ++ node_name s at ∷ [] =
        ap (map (node_name s)) (counting_more first g.seen) ∙ map_push (node_name s) (range_with_len first g.seen) (first + g.seen) ∙ ap (λ q. xs ++ node_name s q ∷ []) (sym g.stands) in
        record {
          seen = g.seen + 1;
          stands = omega (arith, g.stands);
          rest = m.0;
          same = g.same ∙ ap (λ w. onto xs (path_of w)) st.here ∙ ap (λ o. onto xs (before o (path_of (left s (at + node_span s at) end st.over)))) text.1
              ∙ onto_one xs (node_name s at) (path_of (left s (at + node_span s at) end st.over))
              ∙ (λ k. onto (sym more k) (path_of (sym m.1 k)));
        }

    spell_stop : at < end → is_text_at s at ≡ false → path_of es ≡ None
    spell_stop h t =
        let st = step s at end h g.rest in
        let there : at < length (nodes_in s) = omega (arith, g.rest.within) in
        let xs = texts_at s first g.seen in
        g.same ∙ ap (λ w. onto xs (path_of w)) st.here ∙ ap (λ o. onto xs (before o (path_of (left s (at + node_span s at) end st.over)))) (text_no s at there t)

  -- the places that are left, told one by one
  spells : (es : Exprs) (first last n at : ℕ) → at + n ≡ last → first ≤ last → Spelling es first at last → Spelt s first es (then_some (list_all (is_text_at s) (range_with_len at n)) (last - first))
  spells es first last zero at e low g =
      let seen : g.seen ≡ last - first = omega (arith, g.stands) in
      let all : path_of es ≡ Some (texts_at s first g.seen) = g.same ∙ ap (λ w. onto (texts_at s first g.seen) (path_of w)) (over_none s at last (omega arith) g.rest) ∙ ap Some (append-nil (texts_at s first g.seen)) in
      (omega (arith, g.rest.within, g.stands), all ∙ ap (λ k. Some (texts_at s first k)) seen)
  spells es first last (suc n) at e low g = go _ (is_text_at s at) refl (λ t. spells es first last n (at + 1) (omega arith) low (spell_on es first at last g (omega arith) t))
    where
      go : (rest b : Bool) → is_text_at s at ≡ b → (is_text_at s at ≡ true → Spelt s first es (then_some rest (last - first))) → Spelt s first es (then_some (b && rest) (last - first))
      go rest true t later = later t
      go rest false t later = spell_stop es first at last g (omega arith) t

  pub spells_all : (p : ℕ) → p < length (nodes_in s) → first_is_column (arguments_of (expr_at s p)) ≡ true
      → Spelt s (p + 2) (behind_first (arguments_of (expr_at s p))) (then_some (list_all (is_text_at s) (range_with_len (p + 2) (p + node_span s p - (p + 2)))) (p + node_span s p - (p + 2)))
  spells_all p h column = let room = spell_room p h column in spells _ (p + 2) (p + node_span s p) _ (p + 2) (omega (arith, room)) room (spell_start p h column)
