-- The casts on a root. Assumes nothing.
use Rattle.std.specs.Prelude.{◌≡◌, ℕ, ◌<◌, Bool, not, ◌&&◌, List, [], ◌∷◌, length, Some, None, Option, ◌==◌}
use Rattle.std.specs.Option.{option_map}
use Rattle.rules.specs.ReadPlan.{on}
use Rattle.rules.specs.Types.{Ty, same_type}
use Rattle.sheet.specs.declared.sheet.Sheet.{Sheet}
use Rattle.sheet.specs.Seen.{types_in}
use Rattle.sheet.specs.SheetExpressions.{type_at_place}
use Rattle.access.specs.declared.accesses.CastColumnAccess.{CastColumnAccess}
use Rattle.access.specs.Accesses.{is_cast, casts_in}

-- whether a cast that the sheet has is on a root
abbrev pub is_cast_on : Sheet → CastColumnAccess → ℕ → Bool
is_cast_on s c root = is_cast s c && c.root_index == root

-- whether it is, and has another target than the type at a place
abbrev pub is_unlike : Sheet → (place root : ℕ) → CastColumnAccess → Bool
is_unlike s place root c = is_cast_on s c root && not (same_type (type_at_place s place) (type_at_place s c.target_type))

-- the targets of the casts on a root
abbrev pub targets_on : Sheet → List CastColumnAccess → ℕ → List Ty
targets_on s cs root = on root (casts_in s cs)

abbrev pub first_of : {A : Type 0} → List A → Option A
first_of [] = None
first_of (x ∷ xs) = Some x

-- a place is that of the first target, if there is one
pub record FirstTarget (s : Sheet) (cs : List CastColumnAccess) (root : ℕ) (r : Option ℕ) : Type 0 where
  pub is_first : option_map (type_at_place s) r ≡ first_of (targets_on s cs root)
  pub there : (goal : ℕ) → r ≡ Some goal → goal < length (types_in s)
