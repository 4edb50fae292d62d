-- The root that a name means, and its type. Assumes nothing.
use Rattle.std.proofs.Common.{◌≡◌, ℕ, zero, suc, ◌+◌, ◌<◌, Bool, true, false, cond, List, [], ◌∷◌, map, length, get_or, Some, refl, arith}
use lib.ListN.{length-map}
use Rattle.std.specs.Str.{bytes_eq}
use Rattle.rules.specs.Names.{Name}
use Rattle.rules.specs.Trees.{Tree, label}
use Rattle.rules.specs.Types.{first_named, type_at}
use Rattle.format.specs.declared.records.RootRecord.{RootRecord}
use Rattle.format.specs.declared.records.TypeRecord.{TypeRecord}
use Rattle.format.specs.Records.{name_bytes, no_root}
use Rattle.sheet.specs.declared.sheet.Sheet.{Sheet}
use Rattle.sheet.specs.Seen.{names_in, roots_in}
use Rattle.sheet.specs.SheetTrees.{type_tree, root_trees, file_from, file_in}
use Rattle.sheet.specs.SheetExpressions.{type_at_place}
use Rattle.sheet.proofs.Sheets.{few_roots}

module _ (names : List ℕ) (name : Name) where
  pick : (k : ℕ) (ts : List (Tree TypeRecord)) (j : ℕ) (b : Bool) → (first_named name (k + 1) (file_from names ts) ≡ Some j → j < k + 1 + length ts) → cond b (Some k) (first_named name (k + 1) (file_from names ts)) ≡ Some j → j < k + suc (length ts)
  pick k ts j true later e = let z : k ≡ j = cc in omega arith
  pick k ts j false later e = omega (arith, later e)

  low : (k : ℕ) (ts : List (Tree TypeRecord)) (j : ℕ) → first_named name k (file_from names ts) ≡ Some j → j < k + length ts
  low k [] j e = let z : ◌≡◌ {A = ℕ} 0 1 = cc in absurd (omega arith)
  low k (t ∷ ts) j e = pick k ts j (bytes_eq (name_bytes names (label t).name) name) (low (k + 1) ts j) e

module _ (s : Sheet) where
  -- the root is one of the sheet's, of which there are few
  pub named_low : (name : Name) (j : ℕ) → first_named name 0 (file_in s) ≡ Some j → j < length (roots_in s)
  named_low name j e = omega (arith, low (names_in s) name 0 (root_trees s) j e, length-map (roots_in s) (λ (r : RootRecord). type_tree s r.type_place))

  pub named_few : (name : Name) (j : ℕ) → first_named name 0 (file_in s) ≡ Some j → j < 256
  named_few name j e = omega (arith, named_low name j e, few_roots s)

  types_at : (rs : List RootRecord) (j : ℕ) → j < length rs → type_at (file_from (names_in s) (map (λ r. type_tree s r.type_place) rs)) j ≡ type_at_place s (get_or rs j no_root).type_place
  types_at [] j h = absurd (omega arith)
  types_at (r ∷ rs) zero h = refl
  types_at (r ∷ rs) (suc j) h = types_at rs j (omega arith)

  -- its type is the one whose place its record tells
  pub root_type : (j : ℕ) → j < length (roots_in s) → type_at (file_in s) j ≡ type_at_place s (get_or (roots_in s) j no_root).type_place
  root_type = types_at (roots_in s)
