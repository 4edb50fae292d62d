-- How a root is read, as the code tells it. Assumes nothing.
use Rattle.std.specs.Prelude.{◌≡◌, ℕ, ◌+◌, ◌-◌, ◌<◌, ◌≤◌, Bool, false, cond, ◌&&◌, List, [], ◌∷◌, map, length, Some, None, Option, ◌==◌, slice_index}
use Rattle.std.specs.List.{range_with_len}
use Rattle.std.specs.Option.{unwrap_or}
use Rattle.rules.specs.Keeping.{is_clipped, pruned}
use Rattle.rules.specs.Leaves.{Leaf, part_is}
use Rattle.rules.specs.Names.{Name}
use Rattle.rules.specs.ReadPlan.{Reading, unread, entire, along, narrowed, by_paths, is_empty, every, on, numbers_along}
use Rattle.rules.specs.Trees.{preorder}
use Rattle.rules.specs.RootPlan.{is_listed}
use Rattle.rules.specs.Types.{Ty, leaf_count_of, same_type}
use Rattle.format.specs.declared.records.TypeRecord.{TypeRecord}
use Rattle.sheet.specs.declared.sheet.Sheet.{Sheet}
use Rattle.sheet.specs.KeptTrees.{kept_tree}
use Rattle.sheet.specs.SheetExpressions.{type_at_place}
use Rattle.sheet.specs.SheetTrees.{type_tree}
use Rattle.access.specs.declared.accesses.StructFieldAccess.{StructFieldAccess}
use Rattle.access.specs.Accesses.{accesses_in, node_name}
use Rattle.nested.specs.declared.tables.ClipTable.{ClipTable}
use Rattle.nested.specs.Clips.{clip_in}
use Rattle.planner.specs.declared.readings.RootReading.{RootReading}
use Rattle.planner.specs.declared.readings.RootReading.TheVariants.{Unread, Entire, Along, Narrowed}
use Rattle.planner.specs.declared.readings.Uses.{Uses}
use Rattle.planner.specs.Segments.{segment}
use Rattle.planner.specs.Targets.{targets_on}

-- what the accesses and casts of some uses are on a root
abbrev pub paths_on : Sheet → Uses → ℕ → List (List Name)
paths_on s u root = on root (accesses_in s u.accesses.now)

-- the part of an access's path at a depth is that of a leaf, behind its first
abbrev pub is_part_at : Sheet → List Leaf → (leaf : ℕ) → StructFieldAccess → (depth : ℕ) → Bool
is_part_at s ls leaf a d = unwrap_or (part_is ls leaf (d + 1) (node_name s (a.first_part + d))) false

-- the casts on a root can be met by one clip, where its directory has n leaves of it
abbrev pub can_be_narrowed : Sheet → (place n : ℕ) → Ty → List Ty → List (List Name) → Bool
can_be_narrowed s place n g gs paths =
    is_empty paths && (every (same_type g) gs && (n == leaf_count_of (type_at_place s place) && is_clipped (type_at_place s place) g))

abbrev pub by_targets : Sheet → (place n : ℕ) → List Ty → List (List Name) → Reading
by_targets s place n [] paths = by_paths paths
by_targets s place n (g ∷ gs) paths = cond (can_be_narrowed s place n g gs paths) (narrowed g) entire

abbrev pub reading_of : Sheet → Uses → (root place n : ℕ) → Reading
reading_of s u root place n =
    cond (is_listed u.required.now root) entire (by_targets s place n (targets_on s u.casts.now root) (paths_on s u root))

-- The clip that meets the casts on a root, the first of which is to the type at `goal`: it is not accessed too, no cast has
-- another target, its directory has n leaves of it, and there is such a clip.
abbrev pub may_narrow : Sheet → Uses → (root place goal n : ℕ) → Bool
may_narrow s u root place goal n =
    is_empty (paths_on s u root) && every (same_type (type_at_place s goal)) (targets_on s u.casts.now root) && n == leaf_count_of (type_at_place s place)

abbrev pub clip_met : Sheet → Uses → (root place goal n : ℕ) → Option (List ℕ × List TypeRecord)
clip_met s u root place goal n = cond (may_narrow s u root place goal n) (clip_in s place goal) None

-- the clip in a table meets the cast of the type at a place to the one at a goal, and keeps fewer than n leaves
pub record Narrows (s : Sheet) (place n goal : ℕ) (table : ClipTable) : Type 0 where
  pub stands : Some (table.offsets.items, table.types.items) ≡ clip_in s place goal
  pub fewer : length table.offsets.items < n

-- the leaves that the code chooses of a root whose leaves are those from `first` up to `end`
abbrev pub chosen_by : List Leaf → List (List Name) → RootReading → ClipTable → (first end : ℕ) → List ℕ
chosen_by ls paths Unread table first end = []
chosen_by ls paths Entire table first end = range_with_len first (end - first)
chosen_by ls paths Along table first end = numbers_along paths (segment ls first end)
chosen_by ls paths Narrowed table first end = map (λ o. first + o) table.offsets.items

-- the records that it keeps of the root's field
abbrev pub kept_by : Sheet → ℕ → List (List Name) → RootReading → ClipTable → List TypeRecord
kept_by s place paths Unread table = []
kept_by s place paths Entire table = preorder (type_tree s place)
kept_by s place paths Along table = preorder (kept_tree (pruned paths (type_at_place s place)) (type_tree s place))
kept_by s place paths Narrowed table = table.types.items

-- how many fields that is
abbrev pub fields_by : RootReading → ℕ
fields_by Unread = 0
fields_by Entire = 1
fields_by Along = 1
fields_by Narrowed = 1

-- a clip, if there is one, keeps leaves whose numbers are below `end`
abbrev pub ClipFits : RootReading → ClipTable → (first end : ℕ) → Type 0
ClipFits Unread table first end = Unit {0}
ClipFits Entire table first end = Unit {0}
ClipFits Along table first end = Unit {0}
ClipFits Narrowed table first end = (first + length table.offsets.items ≤ end) × ((k : ℕ) → k < length table.offsets.items → first + slice_index table.offsets.items k < end)

-- and has no more records than there are
abbrev pub ClipShort : RootReading → ClipTable → ℕ → Type 0
ClipShort Unread table n = Unit {0}
ClipShort Entire table n = Unit {0}
ClipShort Along table n = Unit {0}
ClipShort Narrowed table n = length table.types.items ≤ n

-- what the code tells is the reading
abbrev pub Reads : Sheet → (place n : ℕ) → List (List Name) → RootReading → ClipTable → Reading → Type 0
Reads s place n paths Unread table r = r ≡ unread
Reads s place n paths Entire table r = r ≡ entire
Reads s place n paths Along table r = r ≡ along paths
Reads s place n paths Narrowed table r = (goal : ℕ) × (r ≡ narrowed (type_at_place s goal)) × Narrows s place n goal table
