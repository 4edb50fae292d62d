-- What the records of accesses and casts stand for. Assumes nothing.
use Rattle.std.specs.Prelude.{ℕ, ◌+◌, Bool, cond, ◌&&◌, List, [], ◌∷◌, map, length, Some, None, Option, nat_le, nat_lt, slice_index_or}
use Rattle.std.specs.List.{range_with_len}
use Rattle.rules.specs.Names.{Name}
use Rattle.rules.specs.Keeping.{Keep, pruned}
use Rattle.rules.specs.ReadPlan.{on}
use Rattle.rules.specs.Types.{Ty}
use Rattle.format.specs.Records.{name_bytes, no_node}
use Rattle.sheet.specs.declared.sheet.Sheet.{Sheet}
use Rattle.sheet.specs.Seen.{names_in, types_in, roots_in, nodes_in}
use Rattle.sheet.specs.SheetExpressions.{type_at_place}
use Rattle.access.specs.declared.accesses.StructFieldAccess.{StructFieldAccess}
use Rattle.access.specs.declared.accesses.CastColumnAccess.{CastColumnAccess}

-- the name that the node at a place bears: of a text literal, its text
abbrev pub node_name : Sheet → ℕ → Name
node_name s p = name_bytes (names_in s) (slice_index_or (nodes_in s) p no_node).name

-- the path of an access: the texts of its literals, which stand one behind the other
abbrev pub path_at : Sheet → StructFieldAccess → List Name
path_at s a = map (node_name s) (range_with_len a.first_part a.parts)

-- an access, with its root and path; none where it names a root or a node that the sheet lacks
abbrev pub is_access : Sheet → StructFieldAccess → Bool
is_access s a = nat_lt a.root_index (length (roots_in s)) && nat_le (a.first_part + a.parts) (length (nodes_in s))

abbrev pub access_in : Sheet → StructFieldAccess → Option (ℕ × List Name)
access_in s a = cond (is_access s a) (Some (a.root_index, path_at s a)) None

-- a cast, with its root and target; none where it names a root or a type that the sheet lacks
abbrev pub is_cast : Sheet → CastColumnAccess → Bool
is_cast s c = nat_lt c.root_index (length (roots_in s)) && nat_lt c.target_type (length (types_in s))

abbrev pub cast_in : Sheet → CastColumnAccess → Option (ℕ × Ty)
cast_in s c = cond (is_cast s c) (Some (c.root_index, type_at_place s c.target_type)) None

-- those that there are, in order
abbrev pub added : {A : Type 0} → Option A → List A → List A
added None xs = xs
added (Some x) xs = x ∷ xs

abbrev pub present : {A : Type 0} → List (Option A) → List A
present [] = []
present (o ∷ os) = added o (present os)

abbrev pub accesses_in : Sheet → List StructFieldAccess → List (ℕ × List Name)
accesses_in s xs = present (map (access_in s) xs)

abbrev pub casts_in : Sheet → List CastColumnAccess → List (ℕ × Ty)
casts_in s cs = present (map (cast_in s) cs)

-- what the accesses on a root keep of a type
abbrev pub pruned_at : Sheet → List StructFieldAccess → (root place : ℕ) → Keep
pruned_at s xs root place = pruned (on root (accesses_in s xs)) (type_at_place s place)
