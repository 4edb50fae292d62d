-- What is left of the paths of accesses at a level of a type. Assumes nothing.
use Rattle.std.specs.Prelude.{ℕ, ◌+◌, Bool, ◌&&◌, List, map, drop, nat_eq, nat_lt}
use Rattle.std.specs.Str.{bytes_eq}
use Rattle.rules.specs.Keeping.{pruned}
use Rattle.rules.specs.Names.{Name}
use Rattle.rules.specs.Trees.{Tree}
use Rattle.format.specs.declared.records.TypeRecord.{TypeRecord}
use Rattle.sheet.specs.declared.sheet.Sheet.{Sheet}
use Rattle.sheet.specs.KeptTrees.{kept_tree}
use Rattle.sheet.specs.SheetExpressions.{type_at_place}
use Rattle.sheet.specs.SheetTrees.{type_tree}
use Rattle.access.specs.declared.accesses.StructFieldAccess.{StructFieldAccess}
use Rattle.access.specs.Accesses.{node_name, path_at, is_access}

-- the parts behind the first ones, of each access
abbrev pub left : Sheet → ℕ → List StructFieldAccess → List (List Name)
left s depth xs = map (λ a. drop depth (path_at s a)) xs

-- an access is on a root, with all that it names in the sheet
abbrev pub is_on : Sheet → ℕ → StructFieldAccess → Bool
is_on s root a = is_access s a && nat_eq a.root_index root

-- a path has a name at a depth
abbrev pub goes_on : Sheet → ℕ → Name → StructFieldAccess → Bool
goes_on s depth name a = nat_lt depth a.parts && bytes_eq name (node_name s (a.first_part + depth))

-- what is left of the type at a place where these paths go on
abbrev pub kept_at : Sheet → List (List Name) → ℕ → Tree TypeRecord
kept_at s ps p = kept_tree (pruned ps (type_at_place s p)) (type_tree s p)
