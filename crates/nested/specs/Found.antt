-- The field that a name finds below a type of a sheet. Assumes nothing.
use Rattle.std.specs.Prelude.{ℕ, ◌<◌, length, Some, None, Option}
use Rattle.rules.specs.Trees.{below}
use Rattle.rules.specs.Types.{Fields}
use Rattle.sheet.specs.declared.sheet.Sheet.{Sheet}
use Rattle.sheet.specs.Seen.{names_in, types_in}
use Rattle.sheet.specs.SheetTrees.{type_tree, fields_of}

-- the fields of the Struct at a place; a wrapper has its item for its one field, and a leaf has none
abbrev pub fields_under : Sheet → ℕ → Fields
fields_under s place = fields_of (names_in s) (below (type_tree s place))

-- a place that was found lies in the table of types
abbrev pub Inside : Sheet → Option ℕ → Type 0
Inside s None = Unit {0}
Inside s (Some place) = place < length (types_in s)
