use Rattle.sheet.proofs.Copies.{Copying}
use Rattle.sheet.proofs.type_ref.TypeRef.copy_into.Given as goal

abbrev pub invariant-loop-k : goal.invariant-loop-k
invariant-loop-k l = Copying l.self.sheet.now l.self.place l.field-items l.k
