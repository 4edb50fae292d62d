use Rattle.sheet.proofs.Readers.{type_span}
use Rattle.access.specs.Following.{left}
use Rattle.access.proofs.Prunes.{Pruning}
use Rattle.access.proofs.prune.+prune.Given as goal

abbrev pub decreases-prune : goal.decreases-prune
decreases-prune l = type_span l.here.sheet.now l.here.place

abbrev pub invariant-loop-child : goal.invariant-loop-child
invariant-loop-child l = Pruning l.here (left l.here.sheet.now l.level.depth l.level.accesses.now) l.head l.initial.fields l.child-iterator l.written l.children l.fields
