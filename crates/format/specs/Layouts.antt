-- The header of a sheet: where its sections lie, and which fault it has. Assumes nothing.
use Rattle.std.specs.Prelude.{ℕ, ◌+◌, ◌-◌, ◌*◌, ◌/◌, Bool, cond, ◌&&◌, ◌||◌, List, [], ◌∷◌, length, Some, Option, ◌==◌, nat_le, slice_index, slice_index_or}
use Rattle.std.specs.Option.{option_map}
use Rattle.rules.specs.Searches.{first_failing, first_found}
use Rattle.format.specs.declared.fault.Fault.{Fault}
use Rattle.format.specs.declared.fault.Fault.TheVariants.{BadExtent, TooMany}
use Rattle.format.specs.declared.layout.Layout.{Layout}
use Rattle.format.specs.declared.layout.Section.{Section}
use Rattle.format.specs.Bytes.{u16_at, u32_at}

-- The sections in the header's order: names, types, roots, leaves, parts, elements, nodes, expressions. In the header
-- stand the form number and then, for each section, its number of records and the byte where the first of them stands.
-- The sections are counted from 0 here, and from 1 in a fault's place, where 0 is the header.
abbrev pub section_at : List ℕ → ℕ → Section
section_at bs s = record { count = u16_at bs (2 + 6 * s); start = u32_at bs (4 + 6 * s) }

abbrev pub layout_of : List ℕ → Layout
layout_of bs = record {
  names = section_at bs 0;
  types = section_at bs 1;
  roots = section_at bs 2;
  leaves = section_at bs 3;
  parts = section_at bs 4;
  elements = section_at bs 5;
  nodes = section_at bs 6;
  expressions = section_at bs 7;
}

-- a section by its number
abbrev pub section_of : Layout → ℕ → Section
section_of l s = slice_index_or (
    l.names ∷ l.types ∷ l.roots ∷ l.leaves ∷ l.parts ∷ l.elements ∷ l.nodes ∷ l.expressions ∷ []) s (record { count = 0; start = 0 })

-- the bytes of a record, and the most records
abbrev pub widths : List ℕ
widths = 1 ∷ 12 ∷ 2 ∷ 6 ∷ 4 ∷ 6 ∷ 24 ∷ 2 ∷ []

abbrev pub limits : List ℕ
limits = 16384 ∷ 2048 ∷ 256 ∷ 1024 ∷ 2048 ∷ 1024 ∷ 512 ∷ 64 ∷ []

-- the header is whole and of form 1, and there are not too many bytes
abbrev pub has_header : List ℕ → Bool
has_header bs = nat_le 50 (length bs) && (nat_le (length bs) 65536 && u16_at bs 0 == 1)

-- a section with records starts behind the header, and the bytes from there on hold them
abbrev pub lies : (width count start bytes : ℕ) → Bool
lies width count start bytes = count == 0 || (nat_le 50 start && nat_le count ((bytes - start) / width))

abbrev pub lies_at : List ℕ → ℕ → Bool
lies_at bs s = lies (slice_index widths s) (section_at bs s).count (section_at bs s).start (length bs)

abbrev pub few : List ℕ → ℕ → Bool
few bs s = nat_le (section_at bs s).count (slice_index limits s)

abbrev pub extents_fault : List ℕ → Option Fault
extents_fault bs = option_map (λ s. BadExtent (s + 1)) (first_failing (lies_at bs) 0 8)

abbrev pub counts_fault : List ℕ → Option Fault
counts_fault bs = option_map (λ s. TooMany (s + 1)) (first_failing (few bs) 0 8)

-- the first fault of the header
abbrev pub layout_fault : List ℕ → Option Fault
layout_fault bs = cond (has_header bs) (first_found (extents_fault bs ∷ counts_fault bs ∷ [])) (Some (BadExtent 0))
