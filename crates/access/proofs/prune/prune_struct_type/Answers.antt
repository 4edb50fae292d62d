use Rattle.std.proofs.Common.{arith}
use Rattle.access.proofs.Prunes.{low_at_top}
use Rattle.access.proofs.prune.prune_struct_type.Goals as goal

pub prune-requires-clause-low : goal.prune-requires-clause-low
prune-requires-clause-low c = omega (arith, low_at_top c.args.here.sheet.now c.args.here.place c.args.here.there)
