use Rattle.std.proofs.Common.{◌≡◌, ◌++◌, take, drop}
use Rattle.sheet.specs.Seen.{types_in}
use Rattle.nested.proofs.keeping.add_records.Given as goal

abbrev pub invariant-loop-k : goal.invariant-loop-k
invariant-loop-k l = l.types.items ≡ l.initial.types.items ++ take l.k (drop l.here.place (types_in l.here.sheet.now))
