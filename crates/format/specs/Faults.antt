-- The refusals by number and place. Assumes nothing.
use Rattle.std.specs.Prelude.{ℕ, ◌+◌, ◌*◌}
use Rattle.format.specs.declared.fault.Fault.{Fault}
use Rattle.format.specs.declared.fault.Fault.TheVariants.{BadExtent, TooMany, BadRecord, NoExpression, TablesFull, NoRoot, ShortBuffer, BadValue, NoColumn, NoField, NoCast, Host}

abbrev pub fault_number : Fault → ℕ
fault_number (BadExtent s) = 1
fault_number (TooMany s) = 2
fault_number (BadRecord s r) = 3
fault_number (NoExpression e) = 4
fault_number (TablesFull e) = 5
fault_number (NoRoot e) = 6
fault_number ShortBuffer = 7
fault_number (BadValue n) = 8
fault_number (NoColumn n) = 51
fault_number (NoField n) = 52
fault_number (NoCast n) = 53
fault_number (Host k n) = k

-- section × 65,536 + record for 1 to 3, where record 0 is told for 1 and 2; the expression for 4 to 6; 0 for 7; the value
-- node for 8; the expression's node from 51 on
abbrev pub fault_place : Fault → ℕ
fault_place (BadExtent s) = s * 65536
fault_place (TooMany s) = s * 65536
fault_place (BadRecord s r) = s * 65536 + r
fault_place (NoExpression e) = e
fault_place (TablesFull e) = e
fault_place (NoRoot e) = e
fault_place ShortBuffer = 0
fault_place (BadValue n) = n
fault_place (NoColumn n) = n
fault_place (NoField n) = n
fault_place (NoCast n) = n
fault_place (Host k n) = n
