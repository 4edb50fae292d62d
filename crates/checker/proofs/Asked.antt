-- Whether a filter may ask an expression of a list, node by node. Assumes nothing.
use Rattle.std.proofs.Common.{◌≡◌, ℕ, zero, suc, ◌+◌, ◌-◌, ◌<◌, Bool, true, false, ◌||◌, length, Some, None, Option, sym, refl, ap, ◌∙◌, subst, arith}
use Rattle.std.proofs.lemmas.Bool.{eqb-true, both_ways}
use Rattle.std.specs.List.{range_with_len, list_any}
use Rattle.rules.specs.Names.{Name}
use Rattle.rules.specs.Expressions.{Exprs, done, arg, has_list_predicate, have_list_predicate}
use Rattle.format.specs.declared.kinds.NodeKind.{NodeKind}
use Rattle.format.specs.declared.kinds.NodeKind.TheVariants.{Column, Literal, Cast, IsNull, IsNotNull}
use Rattle.format.specs.declared.records.NodeRecord.{NodeRecord}
use Rattle.format.specs.Kinds.{node_kind_of}
use Rattle.format.specs.Records.{name_bytes}
use Rattle.sheet.specs.declared.sheet.Sheet.{Sheet}
use Rattle.sheet.specs.Seen.{names_in, nodes_in}
use Rattle.sheet.specs.SheetExpressions.{expr_at, by_node_kind}
use Rattle.sheet.proofs.NodeReaders.{node_record_at, node_span, exprs_at, node_is, node_children_fit_lem, childless, single}
use Rattle.checker.specs.Predicates.{is_asked}
use Rattle.checker.proofs.Flags.{or_assoc, or_none}
use Rattle.checker.proofs.Places.{behind, Left, left, step, over_none, alone, alone_is}

have_behind : (es fs : Exprs) → have_list_predicate (behind es fs) ≡ (have_list_predicate es || have_list_predicate fs)
have_behind done fs = refl
have_behind (arg e es) fs = ap (λ b. has_list_predicate e || b) (have_behind es fs) ∙ sym (or_assoc (has_list_predicate e) (have_list_predicate es) (have_list_predicate fs))

module _ (s : Sheet) where
  abbrev by_record : NodeRecord → Bool
  by_record r = is_asked (node_kind_of r.kind) (name_bytes (names_in s) r.name)

  abbrev pub asked : ℕ → Bool
  asked p = by_record (node_record_at s p)

  -- the node itself is asked, or one below it
  module _ (p : ℕ) (h : p < length (nodes_in s)) where
    abbrev es : Exprs
    es = exprs_at s (node_record_at s p).children (p + 1)

    abbrev f : Name
    f = name_bytes (names_in s) (node_record_at s p).name

    abbrev Says : Option NodeKind → Type 0
    Says o = has_list_predicate (by_node_kind s o (node_record_at s p) es) ≡ (is_asked o f || have_list_predicate es)

    says : (o : Option NodeKind) → node_kind_of (node_record_at s p).kind ≡ o → Says o
    says None e = absurd (both_ways _ refl (node_children_fit_lem s p h None e))
    says (Some Column) e = sym (ap have_list_predicate (childless s p h (eqb-true _ _ (node_children_fit_lem s p h (Some Column) e))).1)
    says (Some Literal) e = sym (ap have_list_predicate (childless s p h (eqb-true _ _ (node_children_fit_lem s p h (Some Literal) e))).1)
    says (Some Cast) e =
        let one = (single s p h (eqb-true _ _ (node_children_fit_lem s p h (Some Cast) e))).child in
        ap (λ w. has_list_predicate (by_node_kind s (Some Cast) (node_record_at s p) w)) one ∙ sym (ap have_list_predicate one ∙ or_none (has_list_predicate (expr_at s (p + 1))))
    says (Some IsNull) e = ap (λ w. has_list_predicate (by_node_kind s (Some IsNull) (node_record_at s p) w)) (single s p h (eqb-true _ _ (node_children_fit_lem s p h (Some IsNull) e))).child
    says (Some IsNotNull) e = ap (λ w. has_list_predicate (by_node_kind s (Some IsNotNull) (node_record_at s p) w)) (single s p h (eqb-true _ _ (node_children_fit_lem s p h (Some IsNotNull) e))).child
    says _ e = refl

    pub node_asked : has_list_predicate (expr_at s p) ≡ (asked p || have_list_predicate es)
    node_asked = ap has_list_predicate (node_is s p h (node_kind_of (node_record_at s p).kind) refl) ∙ says (node_kind_of (node_record_at s p).kind) refl

  -- what is left decides
  record Asking (whole : Bool) (p e : ℕ) : Type 0 where
    pub rest : Left s p e
    pub same : have_list_predicate (left s p e rest) ≡ whole

  ask_start : (p : ℕ) → p < length (nodes_in s) → Asking (has_list_predicate (expr_at s p)) p (p + node_span s p)
  ask_start p h = record { rest = alone s p h; same = ap have_list_predicate (alone_is s p h) ∙ or_none (has_list_predicate (expr_at s p)) }

  ask_hit : (whole : Bool) (p e : ℕ) → p < e → Asking whole p e → asked p ≡ true → true ≡ whole
  ask_hit whole p e h a hit =
      let st = step s p e h a.rest in
      let there : p < length (nodes_in s) = omega (arith, a.rest.within) in
      sym (sym a.same ∙ ap have_list_predicate st.here ∙ ap (λ b. b || have_list_predicate (left s (p + node_span s p) e st.over)) (node_asked p there ∙ ap (λ b. b || have_list_predicate (exprs_at s (node_record_at s p).children (p + 1))) hit))

  ask_miss : (whole : Bool) (p e : ℕ) → p < e → Asking whole p e → asked p ≡ false → Asking whole (p + 1) e
  ask_miss whole p e h a miss =
      let st = step s p e h a.rest in
      let there : p < length (nodes_in s) = omega (arith, a.rest.within) in
      let kids = exprs_at s (node_record_at s p).children (p + 1) in
      let after = left s (p + node_span s p) e st.over in
      record {
        rest = st.into;
        same = ap have_list_predicate st.below ∙ have_behind kids after
            ∙ sym (sym a.same ∙ ap have_list_predicate st.here ∙ ap (λ b. b || have_list_predicate after) (node_asked p there ∙ ap (λ b. b || have_list_predicate kids) miss));
      }

  -- the places that are left, asked one by one
  asks : (whole : Bool) (n p : ℕ) → Asking whole p (p + n) → list_any asked (range_with_len p n) ≡ whole
  asks whole zero p a = sym (ap have_list_predicate (over_none s p (p + 0) (omega arith) a.rest)) ∙ a.same
  asks whole (suc n) p a = go _ (asked p) refl (λ miss. asks whole n (p + 1) (subst (Asking whole (p + 1)) (omega arith) (ask_miss whole p (p + suc n) (omega arith) a miss)))
    where
      go : (rest b : Bool) → asked p ≡ b → (asked p ≡ false → rest ≡ whole) → (b || rest) ≡ whole
      go rest true hit later = ask_hit whole p (p + suc n) (omega arith) a hit
      go rest false miss later = later miss

  pub asks_all : (p : ℕ) → p < length (nodes_in s) → list_any asked (range_with_len p (p + node_span s p - p)) ≡ has_list_predicate (expr_at s p)
  asks_all p h = asks (has_list_predicate (expr_at s p)) _ p (subst (Asking (has_list_predicate (expr_at s p)) p) (omega arith) (ask_start p h))
