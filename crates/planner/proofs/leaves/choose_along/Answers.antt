use Rattle.std.proofs.Common.{arith}
use Rattle.rules.specs.ReadPlan.{on}
use Rattle.access.specs.Accesses.{accesses_in}
use Rattle.planner.proofs.Along.{left_taken, left_passed, left_none}
use Rattle.planner.proofs.leaves.choose_along.Goals as goal
use Rattle.planner.proofs.leaves.choose_along.Goals.{then-is_along, else-is_along}

pub loop-leaf-preserved : goal.loop-leaf-preserved
loop-leaf-preserved g c =
    let ls = g.D.LeafDirectory.leaves c.args.directory.now in
    let ps = on c.args.used.root (accesses_in c.args.sheet.now c.args.used.uses.accesses.now) in
    let l = c.loop-leaf in
    elim c.if-is_along.branch [
      | then-is_along w ↦ rw (w.chosen-is, w.mask-is) (record { few = omega (arith, l.invariant.few); whole = left_taken ls ps c.args.leaves.end l.mask _ l.chosen l.leaf (omega (arith, l.invariant.few)) (omega arith) w.if-is_along.ensures l.invariant.whole })
      | else-is_along w ↦ rw (w.chosen-is, w.mask-is) (record { few = omega (arith, l.invariant.few); whole = left_passed ls ps c.args.leaves.end l.mask _ l.chosen l.leaf (omega arith) w.if-is_along.ensures l.invariant.whole })
    ]

pub returns : goal.returns
returns g c =
    let ls = g.D.LeafDirectory.leaves c.args.directory.now in
    let ps = on c.args.used.root (accesses_in c.args.sheet.now c.args.used.uses.accesses.now) in
    let l = c.loop-leaf in
    record { chosen = left_none ls ps c.args.leaves.end l.mask _ l.chosen l.leaf (omega arith) l.invariant.whole; count = omega (arith, l.invariant.few) }
