-- Down through wrappers to what they are around. Assumes nothing.
use Rattle.std.proofs.Common.{◌≡◌, ℕ, ◌+◌, ◌<◌, length, Some, sym, ap, ◌∙◌, arith}
use Rattle.rules.specs.Types.{contains_struct}
use Rattle.format.specs.declared.kinds.TypeKind.{TypeKind}
use Rattle.format.specs.declared.kinds.TypeKind.TheVariants.{Leaf, Struct}
use Rattle.format.specs.Kinds.{type_kind_of}
use Rattle.sheet.specs.declared.sheet.Sheet.{Sheet}
use Rattle.sheet.specs.Seen.{types_in}
use Rattle.sheet.specs.SheetExpressions.{type_at_place}
use Rattle.sheet.proofs.Readers.{type_record_at, type_span, is_leaf, is_struct, is_wrap, type_view}

-- the item of a wrapper
pub record Item (s : Sheet) (p : ℕ) : Type 0 where
  pub there : p + 1 < length (types_in s)
  pub fewer : type_span s (p + 1) < type_span s p
  pub same : contains_struct (type_at_place s p) ≡ contains_struct (type_at_place s (p + 1))

module _ (s : Sheet) (p : ℕ) (h : p < length (types_in s)) (k : TypeKind) (e : type_kind_of (type_record_at s p).kind ≡ Some k) where
  -- the kind, where the number is known
  kind_is : {n : ℕ} → (type_record_at s p).kind ≡ n → Some k ≡ type_kind_of n
  kind_is z = sym e ∙ ap type_kind_of z

  pub item : (k ≡ Leaf → ⊥) → (k ≡ Struct → ⊥) → Item s p
  item a b = elim (type_view s p h) [
    | is_leaf z c w q ↦ let f : Some k ≡ Some Leaf = kind_is z in absurd (a (cc))
    | is_struct z q ↦ let f : Some k ≡ Some Struct = kind_is z in absurd (b (cc))
    | is_wrap w z d c there spans q ↦ record { there = there; fewer = omega (arith, spans); same = ap contains_struct q }
  ]
