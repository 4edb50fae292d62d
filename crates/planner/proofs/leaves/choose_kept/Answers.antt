use Rattle.std.proofs.Common.{arith}
use Rattle.planner.proofs.Along.{shifted_more}
use Rattle.planner.proofs.leaves.choose_kept.Goals as goal

pub loop-k-preserved : goal.loop-k-preserved
loop-k-preserved c = shifted_more c.loop-k.mask c.args.offsets.now c.loop-k.k c.args.first _ (omega arith) (omega arith) c.loop-k.invariant
