-- The plan that reads listed roots whole, with every buffer. Assumes nothing.
use Rattle.std.specs.Prelude.{◌≡◌, ℕ, Bool, cond, ◌&&◌, List, length, Some, None, Ok, Err, Option, Result, nat_le, nat_lt, slice_index, slice_index_or}
use Rattle.std.specs.List.{flat_map}
use Rattle.rules.specs.Leaves.{Leaf}
use Rattle.rules.specs.RootPlan.{leaves_of_listed, fields_of_listed, roots_of_listed, padded}
use Rattle.rules.specs.Searches.{first_failing}
use Rattle.rules.specs.Trees.{Tree, preorder}
use Rattle.format.specs.declared.fault.Fault.{Fault}
use Rattle.format.specs.declared.fault.Fault.TheVariants.{NoRoot, ShortBuffer}
use Rattle.format.specs.declared.records.TypeRecord.{TypeRecord}
use Rattle.format.specs.Records.{no_root, no_type}
use Rattle.sheet.specs.declared.sheet.Sheet.{Sheet}
use Rattle.sheet.specs.Seen.{names_in, roots_in, types_in}
use Rattle.sheet.specs.SheetTrees.{root_trees, file_from, file_in}
use Rattle.planner.specs.declared.projection_read_plan.Plan.{Plan}

-- the fields of the listed roots, and the type records of some fields, one behind the other
abbrev pub listed_fields : Sheet → List ℕ → List (Tree TypeRecord)
listed_fields s listed = fields_of_listed listed 0 (root_trees s)

abbrev pub field_records : List (Tree TypeRecord) → List TypeRecord
field_records fs = flat_map preorder fs

abbrev pub all_records : Sheet → List TypeRecord
all_records s = field_records (root_trees s)

-- how many type records a root has
abbrev pub span_of : Sheet → ℕ → ℕ
span_of s r = (slice_index_or (types_in s) (slice_index_or (roots_in s) r no_root).type_place no_type).span

-- the fields of the listed roots, taken as types, are those roots of the sheet's file
abbrev pub SchemaOfTheFile : Type 0
SchemaOfTheFile = (s : Sheet) (listed : List ℕ) → file_from (names_in s) (listed_fields s listed) ≡ roots_of_listed listed 0 (file_in s)

-- what a call answers, with what its two buffers then hold
abbrev pub PlanAnswer : Type 0
PlanAnswer = Result Plan Fault × (List ℕ × List TypeRecord)

-- the buffers have room for all leaves of the directory, and for the fields of all roots
abbrev pub has_room : Sheet → List Leaf → List ℕ → List TypeRecord → Bool
has_room s ls leaves fields = nat_le (length ls) (length leaves) && nat_le (length (all_records s)) (length fields)

abbrev pub planned : Sheet → List Leaf → List ℕ → List ℕ → List TypeRecord → PlanAnswer
planned s ls listed leaves fields = (
  Ok (record {
    leaves = length (leaves_of_listed listed 0 ls);
    fields = length (listed_fields s listed);
    types = length (field_records (listed_fields s listed));
  }),
  (padded 0 (leaves_of_listed listed 0 ls) (length leaves), padded no_type (field_records (listed_fields s listed)) (length fields)),
)

abbrev pub root_level_by : Option ℕ → Sheet → List Leaf → List ℕ → List ℕ → List TypeRecord → PlanAnswer
root_level_by (Some k) s ls listed leaves fields = (Err (NoRoot k), (leaves, fields))
root_level_by None s ls listed leaves fields =
    cond (has_room s ls leaves fields) (planned s ls listed leaves fields) (Err ShortBuffer, (leaves, fields))

-- the first listed root that the file lacks is told, then short buffers; a refusal changes no buffer
abbrev pub root_level : Sheet → List Leaf → List ℕ → List ℕ → List TypeRecord → PlanAnswer
root_level s ls listed leaves fields =
    root_level_by (first_failing (λ k. nat_lt (slice_index listed k) (length (roots_in s))) 0 (length listed)) s ls listed leaves fields
