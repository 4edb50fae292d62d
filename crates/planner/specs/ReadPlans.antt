-- A plan by how each root is read, as it is written to two buffers. Assumes nothing.
use Rattle.std.specs.Prelude.{◌≡◌, ℕ, ◌+◌, List, [], ◌∷◌, length, Some, None, Option}
use Rattle.rules.specs.Keeping.{Keep}
use Rattle.rules.specs.Leaves.{Leaf}
use Rattle.rules.specs.ReadPlan.{Reading, read_keep, leaves_from, fields_from, cast_reading}
use Rattle.rules.specs.RootPlan.{padded}
use Rattle.rules.specs.Trees.{Tree}
use Rattle.format.specs.declared.records.TypeRecord.{TypeRecord}
use Rattle.format.specs.Records.{no_type}
use Rattle.sheet.specs.declared.sheet.Sheet.{Sheet}
use Rattle.sheet.specs.Seen.{names_in}
use Rattle.sheet.specs.SheetTrees.{type_of, root_trees, file_from, file_in}
use Rattle.sheet.specs.KeptTrees.{kept_tree}
use Rattle.access.specs.Accesses.{accesses_in, casts_in}
use Rattle.planner.specs.declared.projection_read_plan.Plan.{Plan}
use Rattle.planner.specs.declared.readings.Uses.{Uses}
use Rattle.planner.specs.RootPlans.{field_records}

abbrev pub kept_root : Option Keep → Tree TypeRecord → List (Tree TypeRecord) → List (Tree TypeRecord)
kept_root None t ts = ts
kept_root (Some k) t ts = kept_tree k t ∷ ts

-- what is kept of the fields of the roots, the first of which is root j
abbrev pub kept_trees : List ℕ → (ℕ → Reading) → ℕ → List (Tree TypeRecord) → List (Tree TypeRecord)
kept_trees names reading j [] = []
kept_trees names reading j (t ∷ ts) = kept_root (read_keep (reading j) (type_of names t)) t (kept_trees names reading (j + 1) ts)

-- the leaves that are read, and the fields that are kept
abbrev pub leaves_of_reading : Sheet → List Leaf → (ℕ → Reading) → List ℕ
leaves_of_reading s ls reading = leaves_from reading ls 0 (file_in s)

abbrev pub read_fields : Sheet → (ℕ → Reading) → List (Tree TypeRecord)
read_fields s reading = kept_trees (names_in s) reading 0 (root_trees s)

-- a plan, with what its two buffers then hold
abbrev pub Written : Type 0
Written = Plan × (List ℕ × List TypeRecord)

abbrev pub written_by : Sheet → List Leaf → (ℕ → Reading) → List ℕ → List TypeRecord → Written
written_by s ls reading leaves fields = (
  record {
    leaves = length (leaves_of_reading s ls reading);
    fields = length (read_fields s reading);
    types = length (field_records (read_fields s reading));
  },
  (padded 0 (leaves_of_reading s ls reading) (length leaves), padded no_type (field_records (read_fields s reading)) (length fields)),
)

-- how some uses have each root read
abbrev pub uses_reading : Sheet → List Leaf → Uses → ℕ → Reading
uses_reading s ls u = cast_reading (file_in s) ls u.required.now (accesses_in s u.accesses.now) (casts_in s u.casts.now)

-- taken as types, the kept fields are the projected schema
abbrev pub SchemaAsPlanned : Type 0
SchemaAsPlanned = (s : Sheet) (reading : ℕ → Reading) → file_from (names_in s) (read_fields s reading) ≡ fields_from reading 0 (file_in s)
