use Rattle.std.proofs.Common.{length}
use Rattle.rules.proofs.Stacks.{Searched}
use Rattle.format.specs.Records.{by_place}
use Rattle.format.proofs.check.first_misplaced.Given as goal

abbrev pub invariant-loop-place : goal.invariant-loop-place
invariant-loop-place g l =
    Searched (by_place g.R.Preorder.kids g.R.Record.blank l.records) (by_place g.R.Preorder.reach g.R.Record.blank l.records)
    (length l.records) 32 l.place l.ends.items (length l.ends.items)
