use Rattle.format.proofs.Passes.{Levelled}
use Rattle.format.proofs.elements.first_deep.Given as goal

abbrev pub invariant-loop-place : goal.invariant-loop-place
invariant-loop-place l = Levelled l.elements l.place l.opens
