-- Type records that say the same. Assumes nothing.
use Rattle.std.specs.Prelude.{ℕ, Bool, cond, ◌&&◌, ◌||◌, List, ◌==◌}
use Rattle.std.specs.Str.{bytes_eq}
use Rattle.format.specs.declared.records.TypeRecord.{TypeRecord}
use Rattle.format.specs.Records.{name_bytes}

-- the detail of a leaf, a FixedSizeList or a Map; the other kinds use none
abbrev pub used_detail : TypeRecord → ℕ
used_detail t = cond (t.kind == 1 || (t.kind == 7 || t.kind == 8)) t.detail 0

-- what two types have on top, beside names and nullability
abbrev pub same_top : TypeRecord → TypeRecord → Bool
same_top a b = a.kind == b.kind && (a.children == b.children && used_detail a == used_detail b)

-- the same for fields and items
abbrev pub same_field : List ℕ → TypeRecord → TypeRecord → Bool
same_field names a b =
    same_top a b && (a.nullable == b.nullable && bytes_eq (name_bytes names a.name) (name_bytes names b.name))
