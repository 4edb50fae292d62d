-- Tests of nodes, by their kinds, and their arguments. Assumes nothing.
use Rattle.std.proofs.Common.{◌≡◌, ℕ, ◌+◌, ◌<◌, true, false, cond, eqb, length, Some, None, Option, sym, refl, ap, ◌∙◌}
use Rattle.std.proofs.lemmas.Bool.{eqb-true, both_ways}
use Rattle.rules.specs.Names.{Name}
use Rattle.rules.specs.Expressions.{Expr, literal, Exprs, done, arg, is_column, name_of_column, literal_text}
use Rattle.format.specs.declared.kinds.NodeKind.{NodeKind}
use Rattle.format.specs.declared.kinds.NodeKind.TheVariants.{Column, Literal, Cast, IsNull, IsNotNull}
use Rattle.format.specs.declared.kinds.LiteralKind.{LiteralKind}
use Rattle.format.specs.declared.kinds.LiteralKind.TheVariants.{Text}
use Rattle.format.specs.declared.records.NodeRecord.{NodeRecord}
use Rattle.format.specs.Kinds.{node_kind_of, literal_kind_of}
use Rattle.format.specs.Records.{name_bytes}
use Rattle.sheet.specs.declared.sheet.Sheet.{Sheet}
use Rattle.sheet.specs.Seen.{names_in, nodes_in}
use Rattle.sheet.specs.SheetExpressions.{expr_at, by_node_kind, of_one, literal_of}
use Rattle.sheet.proofs.NodeReaders.{node_record_at, node_span, exprs_at, node_is, node_children_fit_lem, childless, single}
use Rattle.checker.specs.Predicates.{is_column_node, is_text_literal}
use Rattle.checker.specs.Visits.{arguments_of}

module _ (s : Sheet) where
  -- what of_one makes is no column and no literal with a text
  no_column : (make : Expr → Expr) → ((e : Expr) → name_of_column (make e) ≡ None) → (es : Exprs) → name_of_column (of_one s make es) ≡ None
  no_column make f done = refl
  no_column make f (arg e es) = f e

  no_text : (make : Expr → Expr) → ((e : Expr) → literal_text (make e) ≡ None) → (es : Exprs) → literal_text (of_one s make es) ≡ None
  no_text make f done = refl
  no_text make f (arg e es) = f e

  never_one : (make : Expr → Expr) → ((e : Expr) → is_column (make e) ≡ false) → (es : Exprs) → is_column (of_one s make es) ≡ false
  never_one make f done = refl
  never_one make f (arg e es) = f e

  column_kind : (o : Option NodeKind) (r : NodeRecord) (es : Exprs) → name_of_column (by_node_kind s o r es) ≡ cond (is_column_node o) (Some (name_bytes (names_in s) r.name)) None
  column_kind (Some Column) r es = refl
  column_kind (Some Cast) r es = no_column _ (λ e. refl) es
  column_kind (Some IsNull) r es = no_column _ (λ e. refl) es
  column_kind (Some IsNotNull) r es = no_column _ (λ e. refl) es
  column_kind _ r es = refl

  text_literal : (o : Option LiteralKind) (r : NodeRecord) → literal_text (literal (literal_of s o r)) ≡ cond (is_text_literal (Some Literal) o) (Some (name_bytes (names_in s) r.name)) None
  text_literal (Some Text) r = refl
  text_literal _ r = refl

  text_kind : (o : Option NodeKind) (r : NodeRecord) (es : Exprs) → literal_text (by_node_kind s o r es) ≡ cond (is_text_literal o (literal_kind_of r.literal_kind)) (Some (name_bytes (names_in s) r.name)) None
  text_kind (Some Literal) r es = text_literal (literal_kind_of r.literal_kind) r
  text_kind (Some Cast) r es = no_text _ (λ e. refl) es
  text_kind (Some IsNull) r es = no_text _ (λ e. refl) es
  text_kind (Some IsNotNull) r es = no_text _ (λ e. refl) es
  text_kind _ r es = refl

  module _ (p : ℕ) (h : p < length (nodes_in s)) where
    abbrev r : NodeRecord
    r = node_record_at s p

    abbrev n : Name
    n = name_bytes (names_in s) r.name

    abbrev es : Exprs
    es = exprs_at s r.children (p + 1)

    pub column_is : name_of_column (expr_at s p) ≡ cond (is_column_node (node_kind_of r.kind)) (Some n) None
    column_is = ap name_of_column (node_is s p h (node_kind_of r.kind) refl) ∙ column_kind (node_kind_of r.kind) r es

    pub text_is : literal_text (expr_at s p) ≡ cond (is_text_literal (node_kind_of r.kind) (literal_kind_of r.literal_kind)) (Some n) None
    text_is = ap literal_text (node_is s p h (node_kind_of r.kind) refl) ∙ text_kind (node_kind_of r.kind) r es

    -- of one argument
    only : (o : Option NodeKind) → eqb r.children 1 ≡ true → ((x : Expr) → arguments_of (by_node_kind s o r (arg x done)) ≡ arg x done) → arguments_of (by_node_kind s o r es) ≡ es
    only o e is = let one = (single s p h (eqb-true _ _ e)).child in ap (λ w. arguments_of (by_node_kind s o r w)) one ∙ is _ ∙ sym one

    args : (o : Option NodeKind) → node_kind_of r.kind ≡ o → arguments_of (by_node_kind s o r es) ≡ es
    args None e = absurd (both_ways _ refl (node_children_fit_lem s p h None e))
    args (Some Column) e = sym (childless s p h (eqb-true _ _ (node_children_fit_lem s p h (Some Column) e))).1
    args (Some Literal) e = sym (childless s p h (eqb-true _ _ (node_children_fit_lem s p h (Some Literal) e))).1
    args (Some Cast) e = only (Some Cast) (node_children_fit_lem s p h (Some Cast) e) (λ x. refl)
    args (Some IsNull) e = only (Some IsNull) (node_children_fit_lem s p h (Some IsNull) e) (λ x. refl)
    args (Some IsNotNull) e = only (Some IsNotNull) (node_children_fit_lem s p h (Some IsNotNull) e) (λ x. refl)
    args _ e = refl

    -- the arguments of an expression are its children
    pub arguments_are : arguments_of (expr_at s p) ≡ es
    arguments_are = ap arguments_of (node_is s p h (node_kind_of r.kind) refl) ∙ args (node_kind_of r.kind) refl

    -- of another kind
    pub column_none : (k : NodeKind) → node_kind_of r.kind ≡ Some k → (k ≡ Column → ⊥) → None ≡ name_of_column (expr_at s p)
    column_none k e other = sym (column_is ∙ ap (λ b. cond b (Some n) None) (ap is_column_node e ∙ go k other))
      where
        go : (k : NodeKind) → (k ≡ Column → ⊥) → is_column_node (Some k) ≡ false
        go Column other = absurd (other refl)
        go _ other = refl

    -- a column and a literal have no children
    one_column : (o : Option NodeKind) → node_kind_of r.kind ≡ o → is_column (by_node_kind s o r es) ≡ true → r.children ≡ 0
    one_column (Some Column) e t = eqb-true _ _ (node_children_fit_lem s p h (Some Column) e)
    one_column (Some Cast) e t = absurd (both_ways _ (never_one _ (λ x. refl) es) t)
    one_column (Some IsNull) e t = absurd (both_ways _ (never_one _ (λ x. refl) es) t)
    one_column (Some IsNotNull) e t = absurd (both_ways _ (never_one _ (λ x. refl) es) t)
    one_column _ e t = absurd (both_ways _ refl t)

    pub column_span : is_column (expr_at s p) ≡ true → node_span s p ≡ 1
    column_span t = (childless s p h (one_column (node_kind_of r.kind) refl (sym (ap is_column (node_is s p h (node_kind_of r.kind) refl)) ∙ t))).0

    one_literal : (o : Option NodeKind) → node_kind_of r.kind ≡ o → is_text_literal o (literal_kind_of r.literal_kind) ≡ true → r.children ≡ 0
    one_literal (Some Literal) e t = eqb-true _ _ (node_children_fit_lem s p h (Some Literal) e)
    one_literal _ e t = absurd (both_ways _ refl t)

    -- a text literal spans one place, and has the text that its node bears
    pub text_yes : is_text_literal (node_kind_of r.kind) (literal_kind_of r.literal_kind) ≡ true → (node_span s p ≡ 1) × (literal_text (expr_at s p) ≡ Some n)
    text_yes t = ((childless s p h (one_literal (node_kind_of r.kind) refl t)).0, text_is ∙ ap (λ b. cond b (Some n) None) t)

    pub text_no : is_text_literal (node_kind_of r.kind) (literal_kind_of r.literal_kind) ≡ false → literal_text (expr_at s p) ≡ None
    text_no t = text_is ∙ ap (λ b. cond b (Some n) None) t
