-- What a clip comes to, with what it wrote. Assumes nothing.
use Rattle.std.specs.Prelude.{ℕ, cond, List, Some, None, Option}
use Rattle.rules.specs.Keeping.{Keep, kept_leaves, clipped, is_clipped}
use Rattle.rules.specs.Trees.{preorder}
use Rattle.format.specs.declared.records.TypeRecord.{TypeRecord}
use Rattle.sheet.specs.declared.sheet.Sheet.{Sheet}
use Rattle.sheet.specs.SheetTrees.{type_tree}
use Rattle.sheet.specs.SheetExpressions.{type_at_place}
use Rattle.sheet.specs.KeptTrees.{kept_tree}
use Rattle.nested.specs.declared.tables.Clip.{Clip}
use Rattle.nested.specs.declared.tables.ClipTable.{ClipTable}

-- what a cast to the type at `goal` needs of the type at `place`
abbrev pub clip_at : Sheet → ℕ → ℕ → Keep
clip_at s place goal = clipped (type_at_place s place) (type_at_place s goal)

-- where the clip comes to something: the numbers of the kept leaves, the type's first leaf being number 0, and the records
-- of the clipped type
abbrev pub clip_in : Sheet → ℕ → ℕ → Option (List ℕ × List TypeRecord)
clip_in s place goal =
    cond (is_clipped (type_at_place s place) (type_at_place s goal))
    (Some (kept_leaves (clip_at s place goal) 0 (type_at_place s place), preorder (kept_tree (clip_at s place goal) (type_tree s place))))
    None

-- a clip with what stands in its table
abbrev pub shown : Option Clip → ClipTable → Option (List ℕ × List TypeRecord)
shown None table = None
shown (Some c) table = Some (table.offsets.items, table.types.items)
