-- Little-endian numbers. Assumes nothing.
use Rattle.std.specs.Prelude.{ℕ, ◌+◌, ◌*◌, List, ℤ, slice_index}
use Rattle.std.proofs.Common.{to_z}
use Rattle.std.specs.Int.{w64}

abbrev pub u16_at : List ℕ → ℕ → ℕ
u16_at bs at = slice_index bs at + 256 * slice_index bs (at + 1)

abbrev pub u32_at : List ℕ → ℕ → ℕ
u32_at bs at = u16_at bs at + 65536 * u16_at bs (at + 2)

abbrev pub u64_at : List ℕ → ℕ → ℕ
u64_at bs at = u32_at bs at + 4294967296 * u32_at bs (at + 4)

-- a signed number, in two's complement
abbrev pub i64_at : List ℕ → ℕ → ℤ
i64_at bs at = to_z w64 (u64_at bs at)
