use Rattle.directory.proofs.Turns.{Built}
use Rattle.directory.proofs.flattened.FlattenedDirectory.new.Given as goal

abbrev pub invariant-loop-e : goal.invariant-loop-e
invariant-loop-e l = Built l.sheet l.e l.roots l.rows.items l.parents l.opens
