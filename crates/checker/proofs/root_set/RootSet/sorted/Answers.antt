use Rattle.std.proofs.Common.{arith}
use Rattle.std.proofs.lemmas.Grind.{common_steps}
use Rattle.checker.proofs.root_set.RootSet.sorted.Goals as goal
use Rattle.checker.proofs.root_set.RootSet.sorted.Goals.{then-flag, else-flag}

pub loop-root-preserved : goal.loop-root-preserved
loop-root-preserved c = elim c.if-flag.branch [ then-flag w ↦ grind (arith, common_steps) | else-flag w ↦ grind (arith, common_steps) ]
