-- A type of a sheet, copied to the front of a buffer record by record. Assumes nothing.
use Rattle.std.proofs.Common.{◌≡◌, ℕ, ◌+◌, ◌<◌, ◌≤◌, List, ◌∷◌, [], ◌++◌, length, get_or, take, drop, set, sym, ap, ◌∙◌, arith, length-drop}
use Rattle.std.proofs.lemmas.List.{take_more_set, take_more, get_or-drop}
use Rattle.rules.specs.Trees.{preorder, size}
use Rattle.format.specs.declared.records.TypeRecord.{TypeRecord}
use Rattle.format.specs.Records.{no_type}
use Rattle.sheet.specs.declared.sheet.Sheet.{Sheet}
use Rattle.sheet.specs.Seen.{types_in}
use Rattle.sheet.specs.SheetTrees.{type_tree}
use Rattle.sheet.proofs.Sheets.{few_types, type_size, type_within, type_records}

module _ (s : Sheet) where
  -- the span of a record that was looked up, and where its tree ends
  pub record Looked (p : ℕ) (t : TypeRecord) : Type 0 where
    pub spans : t.span ≡ size (type_tree s p)
    pub low : p + t.span ≤ 2048
    pub within : p + t.span ≤ length (types_in s)

  pub looked : (p : ℕ) (t : TypeRecord) → p < length (types_in s) → t ≡ get_or (types_in s) p no_type → Looked p t
  looked p t h e =
      let n = ap (λ (x : TypeRecord). x.span) e in
      let z = type_size s p h in
      let w = type_within s p h in
      record { spans = n ∙ z; low = omega (arith, n, z, w, few_types s); within = omega (arith, n, z, w) }

  module _ (p : ℕ) where
    abbrev pub Copying : List TypeRecord → ℕ → Type 0
    Copying fields k = take k fields ≡ take k (drop p (types_in s))

    pub one_copied : (fields : List TypeRecord) (k : ℕ) (t : TypeRecord) → k < length fields → p + k < length (types_in s) → t ≡ get_or (types_in s) (p + k) no_type → Copying fields k → Copying (set fields k t) (k + 1)
    one_copied fields k t room h e inv =
        let types = drop p (types_in s) in
        let short : k < length types = omega (arith, length-drop p (types_in s)) in
        take_more_set fields k t room ∙ (λ i. inv i ++ (e ∙ sym (get_or-drop p (types_in s) k no_type)) i ∷ []) ∙ sym (take_more types k no_type short)

    pub all_copied : p < length (types_in s) → (fields : List TypeRecord) (k : ℕ) → k ≡ size (type_tree s p) → Copying fields k → take k fields ≡ preorder (type_tree s p)
    all_copied there fields k n inv = inv ∙ ap (λ q. take q (drop p (types_in s))) n ∙ type_records s p there
