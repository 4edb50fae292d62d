use Rattle.sheet.proofs.Readers.{type_span}
use Rattle.nested.proofs.ClipWalks.{Walking}
use Rattle.nested.proofs.type_pair.TypePair.+clip.Given as goal

abbrev pub decreases-clip : goal.decreases-clip
decreases-clip l = type_span l.self.sheet.now l.self.place

abbrev pub invariant-loop-child : goal.invariant-loop-child
invariant-loop-child l = Walking l.self.sheet.now l.self.place l.self.goal l.initial.leaf l.initial.table l.child-iterator l.leaf l.table l.children
