-- A walk over the nodes of an expression: the expressions that are left, side by side. Assumes nothing.
use Rattle.std.proofs.Common.{◌≡◌, ℕ, zero, suc, ◌+◌, ◌<◌, ◌≤◌, true, length, refl, ap, ◌∙◌, arith}
use Rattle.std.proofs.lemmas.Bool.{and_from, lt-ltb, eq-eqb}
use Rattle.rules.specs.Expressions.{Exprs, done, arg}
use Rattle.rules.specs.Preorder.{fills}
use Rattle.rules.specs.Trees.{Forest, none, more}
use Rattle.rules.proofs.Forests.{join}
use Rattle.rules.proofs.Rows.{fills_next, fills_none, fills_join}
use Rattle.format.specs.declared.records.NodeRecord.{NodeRecord}
use Rattle.sheet.specs.declared.sheet.Sheet.{Sheet}
use Rattle.sheet.specs.Seen.{nodes_in}
use Rattle.sheet.specs.SheetExpressions.{expr_at, expr_of, exprs_of}
use Rattle.sheet.proofs.NodeReaders.{node_record_at, node_span, node_row, exprs_at, exprs_more, node_row_join, node_children_fill, node_span_some, node_span_within}

-- expressions behind others
abbrev pub behind : Exprs → Exprs → Exprs
behind done fs = fs
behind (arg e es) fs = arg e (behind es fs)

module _ (s : Sheet) where
  exprs_join : (f g : Forest NodeRecord) → exprs_of s (join f g) ≡ behind (exprs_of s f) (exprs_of s g)
  exprs_join none g = refl
  exprs_join (more t f) g = ap (arg (expr_of s t)) (exprs_join f g)

  -- the expressions that are left from p to e
  pub record Left (p e : ℕ) : Type 0 where
    pub count : ℕ
    pub filled : fills (node_span s) count p e ≡ true
    pub within : e ≤ length (nodes_in s)

  abbrev pub left : (p e : ℕ) → Left p e → Exprs
  left p e l = exprs_at s l.count p

  -- the first of them, and those behind it; and its children, and those behind it
  pub record Step (p e : ℕ) (l : Left p e) : Type 0 where
    pub over : Left (p + node_span s p) e
    pub into : Left (p + 1) e
    pub here : left p e l ≡ arg (expr_at s p) (left (p + node_span s p) e over)
    pub below : left (p + 1) e into ≡ behind (exprs_at s (node_record_at s p).children (p + 1)) (left (p + node_span s p) e over)

  step_of : (n p e : ℕ) (f : fills (node_span s) (suc n) p e ≡ true) (w : e ≤ length (nodes_in s)) → Step p e (record { count = suc n; filled = f; within = w })
  step_of n p e f w =
      let next = fills_next (node_span s) n p e f in
      let there : p < length (nodes_in s) = omega (arith, next.0) in
      let kids = (node_record_at s p).children in
      let children = node_children_fill s p there in
      let end = p + node_span s p in
      let low : end ≤ length (nodes_in s) = node_span_within s p there in
      record {
        over = record { count = n; filled = next.1; within = w };
        into = record { count = kids + n; filled = fills_join (node_span s) kids n (p + 1) end e children next.1; within = w };
        here = exprs_more s n p there;
        below = ap (exprs_of s) (node_row_join s kids n (p + 1) end children low) ∙ exprs_join (node_row s kids (p + 1)) (node_row s n end);
      }

  pub step : (p e : ℕ) → p < e → (l : Left p e) → Step p e l
  step p e h l = go l.count l.filled
    where
      go : (n : ℕ) (f : fills (node_span s) n p e ≡ true) → Step p e (record { count = n; filled = f; within = l.within })
      go zero f = absurd (omega (arith, fills_none (node_span s) p e f))
      go (suc n) f = step_of n p e f l.within

  -- nothing is left
  pub over_none : (p e : ℕ) → e ≤ p → (l : Left p e) → left p e l ≡ done
  over_none p e h l = go l.count l.filled
    where
      go : (n : ℕ) → fills (node_span s) n p e ≡ true → exprs_at s n p ≡ done
      go zero f = refl
      go (suc n) f = absurd (omega (arith, (fills_next (node_span s) n p e f).0))

  -- one expression alone
  abbrev pub alone : (p : ℕ) → p < length (nodes_in s) → Left p (p + node_span s p)
  alone p h = record {
    count = 1;
    filled = and_from _ _ (lt-ltb p (p + node_span s p) (omega (arith, node_span_some s p h))) (eq-eqb (p + node_span s p) (p + node_span s p) refl);
    within = node_span_within s p h;
  }

  pub alone_is : (p : ℕ) (h : p < length (nodes_in s)) → left p (p + node_span s p) (alone p h) ≡ arg (expr_at s p) done
  alone_is p h = exprs_more s 0 p h
