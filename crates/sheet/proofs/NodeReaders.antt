-- What a reader of expressions knows at each place. Assumes nothing.
use Rattle.std.proofs.Common.{◌≡◌, ℕ, suc, ◌+◌, ◌<◌, ◌≤◌, true, length, get_or, vec_items, Option, ap, ◌∙◌, subst, arith, lit<}
use Rattle.std.proofs.lemmas.Bool.{and_parts, ltb-true}
use Rattle.rules.specs.Expressions.{Exprs, done, arg}
use Rattle.rules.specs.Preorder.{fills}
use Rattle.rules.specs.Trees.{node, Forest, more}
use Rattle.rules.proofs.Forests.{join}
use Rattle.rules.proofs.Rows.{row_at, unrolled, row_more, row_join, children_fill_lem, span_some, span_within, fills_next, fills_none}
use Rattle.format.specs.declared.kinds.NodeKind.{NodeKind}
use Rattle.format.specs.declared.records.NodeRecord.{NodeRecord}
use Rattle.format.specs.Good.{node_children, node_fields}
use Rattle.format.specs.Kinds.{node_kind_of}
use Rattle.format.specs.Records.{no_node, no_expression, expression_from}
use Rattle.format.proofs.Tables.{length-table}
use Rattle.sheet.specs.declared.sheet.Sheet.{Sheet}
use Rattle.sheet.specs.Seen.{nodes_in, expressions_in}
use Rattle.sheet.specs.SheetTrees.{node_tree}
use Rattle.sheet.specs.SheetExpressions.{expr_of, exprs_of, expr_at, by_node_kind}
use Rattle.sheet.proofs.Sheets.{node_count_lem, nodes_placed}

module _ (s : Sheet) where
  abbrev pub node_record_at : ℕ → NodeRecord
  node_record_at p = get_or (nodes_in s) p no_node

  abbrev pub node_span : ℕ → ℕ
  node_span p = (node_record_at p).span

  -- n nodes side by side from a place on, and the expressions that they are
  abbrev pub node_row : ℕ → ℕ → Forest NodeRecord
  node_row n p = row_at (λ n. n.children) (λ n. n.span) no_node (nodes_in s) 32 n p

  abbrev pub exprs_at : ℕ → ℕ → Exprs
  exprs_at n p = exprs_of s (node_row n p)

  pub few_nodes : length (nodes_in s) ≤ 512
  few_nodes = omega (arith, node_count_lem s, s.few 6 (lit< tt))

  pub expression_count_lem : length (expressions_in s) ≡ s.layout.expressions.count
  expression_count_lem = length-table 2 expression_from (vec_items s.bytes) s.layout.expressions.start s.layout.expressions.count

  pub few_expressions : length (expressions_in s) ≤ 64
  few_expressions = omega (arith, expression_count_lem, s.few 7 (lit< tt))

  -- the node that an expression names is there
  pub expression_place : (e : ℕ) → e < length (expressions_in s) → (get_or (expressions_in s) e no_expression).node_place < length (nodes_in s)
  expression_place e h = let good = ltb-true _ _ (s.expressions e (omega (arith, expression_count_lem))) in omega (arith, good, node_count_lem s)

  pub node_unrolled : (p : ℕ) → p < length (nodes_in s) → node_tree s p ≡ node (node_record_at p) (node_row (node_record_at p).children (p + 1))
  node_unrolled = unrolled (λ (n : NodeRecord). n.children) (λ n. n.span) no_node (nodes_in s) 32 (nodes_placed s)

  pub node_row_more : (n p : ℕ) → p < length (nodes_in s) → node_row (suc n) p ≡ more (node_tree s p) (node_row n (p + node_span p))
  node_row_more = row_more (λ (n : NodeRecord). n.children) (λ n. n.span) no_node (nodes_in s) 32 (nodes_placed s)

  -- nodes that fill a part of the table, and then others
  pub node_row_join : (n m p e : ℕ) → fills node_span n p e ≡ true → e ≤ length (nodes_in s) → node_row (n + m) p ≡ join (node_row n p) (node_row m e)
  node_row_join = row_join (λ (n : NodeRecord). n.children) (λ n. n.span) no_node (nodes_in s) 32 (nodes_placed s)

  pub node_children_fill : (p : ℕ) → p < length (nodes_in s) → fills node_span (node_record_at p).children (p + 1) (p + node_span p) ≡ true
  node_children_fill = children_fill_lem (λ (n : NodeRecord). n.children) (λ n. n.span) no_node (nodes_in s) 32 (nodes_placed s)

  pub node_span_some : (p : ℕ) → p < length (nodes_in s) → 0 < node_span p
  node_span_some = span_some (λ (n : NodeRecord). n.children) (λ n. n.span) no_node (nodes_in s) 32 (nodes_placed s)

  pub node_span_within : (p : ℕ) → p < length (nodes_in s) → p + node_span p ≤ length (nodes_in s)
  node_span_within = span_within (λ (n : NodeRecord). n.children) (λ n. n.span) no_node (nodes_in s) 32 (nodes_placed s)

  -- the first of several expressions, and those behind it
  pub exprs_more : (n p : ℕ) → p < length (nodes_in s) → exprs_at (suc n) p ≡ arg (expr_at s p) (exprs_at n (p + node_span p))
  exprs_more n p h = ap (exprs_of s) (node_row_more n p h)

  module _ (p : ℕ) (h : p < length (nodes_in s)) where
    abbrev r : NodeRecord
    r = node_record_at p

    -- What stands at a place, by its kind: the expression, that the number of children fits, and that the fields are good.
    pub node_is : (o : Option NodeKind) → node_kind_of r.kind ≡ o → expr_at s p ≡ by_node_kind s o r (exprs_at r.children (p + 1))
    node_is o e = ap (expr_of s) (node_unrolled p h) ∙ ap (λ k. by_node_kind s k r (exprs_at r.children (p + 1))) e

    fair : (node_children (node_kind_of r.kind) r.children ≡ true) × (node_fields (node_kind_of r.kind) s.layout r ≡ true)
    fair = and_parts _ _ (and_parts _ _ (s.nodes p (omega (arith, node_count_lem s)))).0

    pub node_children_fit_lem : (o : Option NodeKind) → node_kind_of r.kind ≡ o → node_children o r.children ≡ true
    node_children_fit_lem o e = subst (λ k. node_children k r.children ≡ true) e fair.0

    pub node_fields_fit_lem : (o : Option NodeKind) → node_kind_of r.kind ≡ o → node_fields o s.layout r ≡ true
    node_fields_fit_lem o e = subst (λ k. node_fields k s.layout r ≡ true) e fair.1

    -- a node without children, and one with a single child, which stands right behind it
    pub childless : r.children ≡ 0 → (node_span p ≡ 1) × (exprs_at r.children (p + 1) ≡ done)
    childless n =
        let f : fills node_span 0 (p + 1) (p + node_span p) ≡ true = subst (λ m. fills node_span m (p + 1) (p + node_span p) ≡ true) n (node_children_fill p h) in
        let last = fills_none node_span (p + 1) (p + node_span p) f in
        (omega (arith, last), ap (λ m. exprs_at m (p + 1)) n)

    pub record Single : Type 0 where
      pub there : p + 1 < length (nodes_in s)
      pub spans : node_span p ≡ 1 + node_span (p + 1)
      pub child : exprs_at r.children (p + 1) ≡ arg (expr_at s (p + 1)) done

    pub single : r.children ≡ 1 → Single
    single n =
        let f : fills node_span 1 (p + 1) (p + node_span p) ≡ true = subst (λ m. fills node_span m (p + 1) (p + node_span p) ≡ true) n (node_children_fill p h) in
        let next = fills_next node_span 0 (p + 1) (p + node_span p) f in
        let there : p + 1 < length (nodes_in s) = omega (arith, next.0, node_span_within p h) in
        let last = fills_none node_span (p + 1 + node_span (p + 1)) (p + node_span p) next.1 in
        record {
          there = there;
          spans = omega (arith, last);
          child = ap (λ m. exprs_at m (p + 1)) n ∙ exprs_more 0 (p + 1) there;
        }
