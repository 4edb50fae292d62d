-- The open elements. Assumes nothing.
use Rattle.std.proofs.Common.{◌≡◌, ℕ, ◌+◌, ◌-◌, ◌<◌, Bool, true, false, cond, leb, List, [], ◌∷◌, refl, arith}
use Rattle.std.specs.List.{slice_get}
use Rattle.std.specs.Option.{option_map}
use Rattle.std.proofs.lemmas.Bool.{leb-false}
use Rattle.format.specs.declared.opens.Open.{Open}
use Rattle.format.specs.Opens.{fewer}
use Rattle.directory.specs.declared.flattened.rows.ElementRow.{ElementRow}
use Rattle.directory.specs.declared.flattened.rows.Seat.{Seat}
use Rattle.directory.specs.Building.{seat_of, AllOpen}

-- where the next element stands
abbrev pub seat_at : List (Open ElementRow) → ℕ → Seat
seat_at os k = seat_of (option_map (λ (o : Open ElementRow). o.told) (slice_get os 0)) k

abbrev pub with_left : Open ElementRow → ℕ → Open ElementRow
with_left o n = record { left = n; told = o.told }

-- one more element is passed
pub open_later : (e : ℕ) (os : List (Open ElementRow)) → AllOpen e os → AllOpen (e + 1) os
open_later e [] all = tt
open_later e (o ∷ os) all = (all.0, omega (arith, all.1), omega (arith, all.2), open_later e os all.3)

pub open_fewer : (e : ℕ) (os : List (Open ElementRow)) → AllOpen e os → AllOpen e (fewer os)
open_fewer e [] all = tt
open_fewer e (o ∷ os) all = by (leb o.left 1) refl
  where
    by : (b : Bool) → leb o.left 1 ≡ b → AllOpen e (cond b os (with_left o (o.left - 1) ∷ os))
    by true is = all.3
    by false is = (omega (arith, leb-false o.left 1 is), all.1, all.2, all.3)

pub seat_low : (e k : ℕ) (os : List (Open ElementRow)) → AllOpen e os → 0 < e → k < e → ((seat_at os k).parent < e) × ((seat_at os k).above < e) × ((seat_at os k).roots < e + 1)
seat_low e k [] all some low = (some, some, omega arith)
seat_low e k (o ∷ os) all some low = (all.1, all.2, omega arith)
