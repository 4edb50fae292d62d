use Rattle.std.proofs.Common.{◌≡◌, ◌+◌, ◌-◌}
use Rattle.rules.specs.Preorder.{fills}
use Rattle.format.specs.Records.{by_place}
use Rattle.format.proofs.check.children_fill.Given as goal

-- what is left of the walk decides
abbrev pub invariant-loop-k : goal.invariant-loop-k
invariant-loop-k g l =
    let span = by_place g.R.Preorder.reach g.R.Record.blank l.records in
    fills span (by_place g.R.Preorder.kids g.R.Record.blank l.records l.place) (l.place + 1) l.end
    ≡ fills span (l._k-end - l._k) l.at l.end
