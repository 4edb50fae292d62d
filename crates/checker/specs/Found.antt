-- What a checker has found, and what it comes to. Assumes nothing.
use Rattle.std.specs.Prelude.{ℕ, List, map, Option}
use Rattle.rules.specs.Names.{Name}
use Rattle.rules.specs.Types.{Ty}
use Rattle.sheet.specs.declared.sheet.Sheet.{Sheet}
use Rattle.access.specs.Accesses.{access_in, cast_in}
use Rattle.checker.specs.declared.columns.PushdownColumns.{PushdownColumns}
use Rattle.checker.specs.declared.root_set.RootList.{RootList}
use Rattle.checker.specs.declared.state.PushdownChecker.{PushdownChecker}
use Rattle.checker.specs.Notes.{Notes, flagged}

abbrev pub found : PushdownChecker → Notes
found c = record {
  roots = c.required_columns.flags;
  accesses = map (access_in c.file_schema.now) c.struct_field_accesses.items;
  casts = map (cast_in c.file_schema.now) c.cast_accesses.items;
  unknowns = c.projected_columns;
  unsupporteds = c.non_primitive_columns;
  unpushables = c.has_unpushable_udfs;
}

-- the roots of a list
abbrev pub roots_of : RootList → List ℕ
roots_of l = l.roots.items

-- columns, by what they stand for in a sheet
abbrev pub Columns : Type 0
Columns = List ℕ × (List (Option (ℕ × List Name)) × List (Option (ℕ × Ty)))

abbrev pub columns_in : Sheet → PushdownColumns → Columns
columns_in s c = (
  roots_of c.required_columns,
  (map (access_in s) c.struct_field_accesses.items, map (cast_in s) c.cast_accesses.items),
)

abbrev pub columns_of : Notes → Columns
columns_of n = (flagged 0 n.roots, (n.accesses, n.casts))
