-- Every type and every node of a sheet is of a kind. Assumes nothing.
use Rattle.std.proofs.Common.{◌≡◌, ℕ, ◌<◌, true, length, get_or, None, Option, sym, subst, arith}
use Rattle.std.proofs.lemmas.Bool.{and_parts, false≢true}
use Rattle.format.specs.declared.kinds.TypeKind.{TypeKind}
use Rattle.format.specs.declared.kinds.NodeKind.{NodeKind}
use Rattle.format.specs.declared.records.TypeRecord.{TypeRecord}
use Rattle.format.specs.Good.{type_children, node_children}
use Rattle.format.specs.Kinds.{type_kind_of, node_kind_of}
use Rattle.format.specs.Records.{no_type, no_node}
use Rattle.sheet.specs.declared.sheet.Sheet.{Sheet}
use Rattle.sheet.specs.Seen.{types_in, nodes_in}
use Rattle.sheet.proofs.Sheets.{type_count_lem, node_count_lem}

type_kinded : (k : Option TypeKind) (n : ℕ) (b : TypeRecord) → None ≡ k → type_children k n b ≡ true → ⊥
type_kinded k n b e h = false≢true (subst (λ x. type_children x n b ≡ true) (sym e) h)

node_kinded : (k : Option NodeKind) (n : ℕ) → None ≡ k → node_children k n ≡ true → ⊥
node_kinded k n e h = false≢true (subst (λ x. node_children x n ≡ true) (sym e) h)

module _ (s : Sheet) (p : ℕ) where
  pub type_is_kinded : p < length (types_in s) → None ≡ type_kind_of (get_or (types_in s) p no_type).kind → ⊥
  type_is_kinded h e = type_kinded _ _ _ e (and_parts _ _ (and_parts _ _ (s.types p (omega (arith, type_count_lem s)))).0).0

  pub node_is_kinded : p < length (nodes_in s) → None ≡ node_kind_of (get_or (nodes_in s) p no_node).kind → ⊥
  node_is_kinded h e = node_kinded _ _ e (and_parts _ _ (and_parts _ _ (s.nodes p (omega (arith, node_count_lem s)))).0).0
