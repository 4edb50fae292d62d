-- The elements that are open while a directory is built. Assumes nothing.
use Rattle.std.specs.Prelude.{ℕ, ◌+◌, ◌<◌, List, [], ◌∷◌, Some, None, Option}
use Rattle.format.specs.declared.opens.Open.{Open}
use Rattle.directory.specs.declared.flattened.rows.ElementRow.{ElementRow}
use Rattle.directory.specs.declared.flattened.rows.Seat.{Seat}

-- where the next element stands: under the innermost open element, or as the root k
abbrev pub seat_of : Option ElementRow → ℕ → Seat
seat_of None k = record { parent = 0; root = k; above = 0; roots = k + 1 }
seat_of (Some r) k = record { parent = r.element; root = r.root; above = r.parts; roots = k }

-- those that are open stand before e, and have children to come
abbrev pub AllOpen : ℕ → List (Open ElementRow) → Type 0
AllOpen e [] = Unit {0}
AllOpen e (o ∷ os) = (0 < o.left) × (o.told.element < e) × (o.told.parts < e) × AllOpen e os
