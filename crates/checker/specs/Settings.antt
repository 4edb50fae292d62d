-- What a checker goes by, and what stays as it goes on. Assumes nothing.
use Rattle.std.specs.Prelude.{◌≡◌, ℕ, Bool, not, ◌&&◌, ◌||◌, List}
use Rattle.rules.specs.Names.{Name}
use Rattle.rules.specs.Types.{Ty, File, first_named, is_nested}
use Rattle.rules.specs.Findings.{Finding, is_supported, is_map_root, column_step, access_on, findings}
use Rattle.sheet.specs.declared.sheet.Sheet.{Sheet}
use Rattle.sheet.specs.SheetTrees.{file_in}
use Rattle.sheet.specs.SheetExpressions.{expr_at}
use Rattle.checker.specs.declared.state.PushdownChecker.{PushdownChecker}

-- the sheet, and whether lists are supported and casts are recorded
pub record Settings (s : Sheet) (lists casts : Bool) (c : PushdownChecker) : Type 0 where
  pub schema : c.file_schema.now ≡ s
  pub lists_as : c.allow_list_columns ≡ lists
  pub casts_as : c.collect_cast_accesses ≡ casts

module _ (c : PushdownChecker) where
  abbrev pub sheet_of : Sheet
  sheet_of = c.file_schema.now

  abbrev pub file_of : File
  file_of = file_in sheet_of

  -- a checker is set as this one
  abbrev pub SameSettings : PushdownChecker → Type 0
  SameSettings after = Settings sheet_of c.allow_list_columns c.collect_cast_accesses after

  -- the rules, by the checker's settings
  abbrev pub supports : Ty → Bool
  supports = is_supported file_of c.allow_list_columns c.collect_cast_accesses

  abbrev pub is_of_map : Name → Bool
  is_of_map name = is_map_root file_of c.allow_list_columns c.collect_cast_accesses (first_named name 0 file_of)

  -- a get_field of such a column that returns such a type is read along its path
  abbrev pub follows : Name → Ty → Bool
  follows name t = not (is_of_map name) && (not (is_nested t) || supports t)

  abbrev pub column_findings : Name → List Finding
  column_findings = column_step file_of c.allow_list_columns c.collect_cast_accesses

  abbrev pub access_findings : Name → List Name → List Finding
  access_findings name path = access_on file_of c.allow_list_columns c.collect_cast_accesses path (first_named name 0 file_of)

  abbrev pub findings_at : ℕ → List Finding
  findings_at place = findings file_of c.allow_list_columns c.collect_cast_accesses (expr_at sheet_of place)
