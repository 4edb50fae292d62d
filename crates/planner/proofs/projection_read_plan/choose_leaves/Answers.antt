use Rattle.std.proofs.Common.{◌<◌, ◌≤◌, length, sym, ap, ◌∙◌, arith, rules}
use Rattle.std.proofs.lemmas.List.{length-take-le}
use Rattle.planner.proofs.Padding.{pads}
use Rattle.planner.proofs.Chosen.{taken, passed, there, chosen}
use Rattle.planner.proofs.projection_read_plan.choose_leaves.Goals as goal
use Rattle.planner.proofs.projection_read_plan.choose_leaves.Goals.{in-Some+then-is_listed, in-Some+else-is_listed, in_default}

pub loop-leaf-preserved : goal.loop-leaf-preserved
loop-leaf-preserved g c =
    let roots = c.args.roots.now in
    let ls = g.D.LeafDirectory.leaves c.args.directory.now in
    let l = c.loop-leaf in
    let h : l.leaf < length ls = omega arith in
    elim c.match-root.branch [
      | in-Some+then-is_listed w ↦ rw (w.count-is, w.mask-is) (omega (arith, l.invariant.0), taken roots ls l.mask l.count l.leaf w.in-Some.root (omega (arith, l.invariant.0)) h w.in-Some.ensures w.if-is_listed.ensures l.invariant.1)
      | in-Some+else-is_listed w ↦ rw (w.count-is, w.mask-is) (omega (arith, l.invariant.0), passed roots ls l.mask l.count l.leaf w.in-Some.root h w.in-Some.ensures w.if-is_listed.ensures l.invariant.1)
      | in_default w ↦ absurd (there roots ls l.leaf h w.in_default.ensures)
    ]

pub returns : goal.returns
returns g c =
    let roots = c.args.roots.now in
    let ls = g.D.LeafDirectory.leaves c.args.directory.now in
    let l = c.loop-leaf in
    let all = chosen roots ls l.mask l.count l.leaf (omega arith) l.invariant.1 in
    let low : l.count ≤ length l.mask = omega (arith, l.invariant.0) in
    record {
      chosen = pads 0 l.mask c.fill.new.self _ l.count (length c.args.mask.now) low (omega arith) all (c.fill.ensures.after (λ y h. search rules));
      count = sym (length-take-le l.count l.mask low) ∙ ap length all;
    }
