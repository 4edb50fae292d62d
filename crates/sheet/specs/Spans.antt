-- How far each type of a sheet reaches. Assumes nothing.
use Rattle.std.specs.Prelude.{◌≡◌, ℕ, ◌+◌, true, slice_index_or}
use Rattle.rules.specs.Preorder.{fills}
use Rattle.format.specs.Records.{no_type}
use Rattle.sheet.specs.declared.sheet.Sheet.{Sheet}
use Rattle.sheet.specs.Seen.{types_in}

module _ (s : Sheet) where
  -- how many records the type at a place has
  abbrev pub span_at : ℕ → ℕ
  span_at p = (slice_index_or (types_in s) p no_type).span

  -- n types side by side from a place on reach to the end of the type at p
  abbrev pub Reach : ℕ → ℕ → ℕ → Type 0
  Reach p n next = fills span_at n next (p + span_at p) ≡ true
