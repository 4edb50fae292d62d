-- What a node comes to, by its kind. Assumes nothing.
use Rattle.std.proofs.Common.{◌≡◌, ℕ, ◌+◌, ◌<◌, Bool, List, length, Some, sym, refl, subst, append-nil}
use Rattle.rules.specs.Expressions.{Expr, is_null, is_not_null, Exprs, done, arg}
use Rattle.rules.specs.Findings.{Finding, findings, findings_in}
use Rattle.format.specs.declared.kinds.NodeKind.{NodeKind}
use Rattle.format.specs.declared.kinds.NodeKind.TheVariants.{Column, GetField, Cast, IsNull, IsNotNull, InputFileName, FileRowIndex}
use Rattle.format.specs.declared.records.NodeRecord.{NodeRecord}
use Rattle.sheet.specs.declared.sheet.Sheet.{Sheet}
use Rattle.sheet.specs.Seen.{nodes_in}
use Rattle.sheet.specs.SheetTrees.{file_in}
use Rattle.sheet.specs.SheetExpressions.{expr_at, by_node_kind, of_one}
use Rattle.sheet.proofs.NodeReaders.{node_record_at, exprs_at, node_is}
use Rattle.checker.specs.Visits.{kind_at, arguments_of}

module _ (s : Sheet) (lists casts : Bool) where
  abbrev fs : Expr → List Finding
  fs = findings (file_in s) lists casts

  abbrev Same : Expr → Type 0
  Same x = fs x ≡ findings_in (file_in s) lists casts (arguments_of x)

  one_below : (make : Expr → Expr) → ((e : Expr) → Same (make e)) → (es : Exprs) → Same (of_one s make es)
  one_below make f done = refl
  one_below make f (arg e es) = f e

  -- what no rule of its own is for
  others : (k : NodeKind) (r : NodeRecord) (es : Exprs) → (k ≡ GetField → ⊥) → (k ≡ Cast → ⊥) → (k ≡ Column → ⊥) → (k ≡ InputFileName → ⊥) → (k ≡ FileRowIndex → ⊥) → Same (by_node_kind s (Some k) r es)
  others GetField r es a b c d e = absurd (a refl)
  others Cast r es a b c d e = absurd (b refl)
  others Column r es a b c d e = absurd (c refl)
  others InputFileName r es a b c d e = absurd (d refl)
  others FileRowIndex r es a b c d e = absurd (e refl)
  others IsNull r es a b c d e = one_below is_null (λ x. sym (append-nil (fs x))) es
  others IsNotNull r es a b c d e = one_below is_not_null (λ x. sym (append-nil (fs x))) es
  others _ r es a b c d e = refl

  module _ (p : ℕ) (h : p < length (nodes_in s)) (k : NodeKind) (is : kind_at s p ≡ Some k) where
    abbrev es : Exprs
    es = exprs_at s (node_record_at s p).children (p + 1)

    it : expr_at s p ≡ by_node_kind s (Some k) (node_record_at s p) es
    it = node_is s p h (Some k) is

    pub others_need : (k ≡ GetField → ⊥) → (k ≡ Cast → ⊥) → (k ≡ Column → ⊥) → (k ≡ InputFileName → ⊥) → (k ≡ FileRowIndex → ⊥) → Same (expr_at s p)
    others_need a b c d e = subst Same (sym it) (others k (node_record_at s p) es a b c d e)
