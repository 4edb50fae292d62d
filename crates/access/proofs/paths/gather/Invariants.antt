use Rattle.std.proofs.Common.{◌≡◌, ◌≤◌, Bool, filter, length, take}
use Rattle.std.specs.Fn.{FnReturnsAt}
use Rattle.access.specs.declared.accesses.StructFieldAccess.{StructFieldAccess}
use Rattle.access.proofs.paths.gather.Given as goal

abbrev pub invariant-loop-access : goal.invariant-loop-access
invariant-loop-access g l = record {
  few : length l.paths.items ≤ l.access-index;
  gathered : (p : StructFieldAccess → Bool) → ((x : StructFieldAccess) (b : Bool) → FnReturnsAt g.F.Fn l.test x b → b ≡ p x) → l.paths.items ≡ filter p (take l.access-index l.accesses);
}
