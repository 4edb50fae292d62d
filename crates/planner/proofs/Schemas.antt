-- The fields of a plan, taken as types. Assumes nothing.
use Rattle.std.proofs.Common.{◌≡◌, ℕ, ◌+◌, Bool, true, false, cond, List, [], ◌∷◌, refl, ap}
use Rattle.rules.specs.RootPlan.{is_listed, fields_of_listed, roots_of_listed}
use Rattle.rules.specs.Trees.{Tree, label}
use Rattle.rules.specs.Types.{field}
use Rattle.format.specs.declared.records.TypeRecord.{TypeRecord}
use Rattle.format.specs.Records.{name_bytes}
use Rattle.sheet.specs.Seen.{names_in}
use Rattle.sheet.specs.SheetTrees.{is_nullable, type_of, file_from, root_trees}
use Rattle.planner.specs.RootPlans.{SchemaOfTheFile}

module _ (names : List ℕ) (listed : List ℕ) where
  kept : (k : ℕ) (ts : List (Tree TypeRecord)) → file_from names (fields_of_listed listed k ts) ≡ roots_of_listed listed k (file_from names ts)
  kept k [] = refl
  kept k (t ∷ ts) = by (is_listed listed k) (kept (k + 1) ts)
    where
      by : (b : Bool) → file_from names (fields_of_listed listed (k + 1) ts) ≡ roots_of_listed listed (k + 1) (file_from names ts)
          → file_from names (cond b (t ∷ fields_of_listed listed (k + 1) ts) (fields_of_listed listed (k + 1) ts))
          ≡ cond b (field (name_bytes names (label t).name) (is_nullable names (label t)) (type_of names t) (roots_of_listed listed (k + 1) (file_from names ts))) (roots_of_listed listed (k + 1) (file_from names ts))
      by true e = ap (field (name_bytes names (label t).name) (is_nullable names (label t)) (type_of names t)) e
      by false e = e

pub schema_of_the_file : SchemaOfTheFile
schema_of_the_file s listed = kept (names_in s) listed 0 (root_trees s)
