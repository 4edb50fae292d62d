-- Records of two types that say the same. Assumes nothing.
use Rattle.std.specs.Prelude.{ℕ, ◌+◌, Bool, slice_index_or}
use Rattle.format.specs.Records.{no_type}
use Rattle.sheet.specs.declared.sheet.Sheet.{Sheet}
use Rattle.sheet.specs.Seen.{names_in, types_in}
use Rattle.nested.specs.Alike.{same_field}

-- the records k places behind those at `place` and `goal`
abbrev pub same_at : Sheet → (place goal k : ℕ) → Bool
same_at s place goal k = same_field (names_in s) (slice_index_or (types_in s) (place + k) no_type) (slice_index_or (types_in s) (goal + k) no_type)
