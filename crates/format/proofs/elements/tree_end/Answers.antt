use Rattle.std.proofs.Common.{ap, arith}
use Rattle.format.specs.declared.records.ElementRecord.{ElementRecord}
use Rattle.format.proofs.Passes.{ending_starts, ending_on, ending_here, ending_never}
use Rattle.format.proofs.elements.tree_end.Goals as goal

pub loop-place-init : goal.loop-place-init
loop-place-init c = (omega arith, omega arith, ending_starts c.args.elements.now)

pub returns-then-pending-eq0 : goal.returns-then-pending-eq0
returns-then-pending-eq0 c =
    let i = c.loop-place.invariant in
    ending_here c.args.elements.now _ _ c.if-pending-eq0.true
    (ending_on c.args.elements.now c.loop-place.place c.loop-place.pending c.get.result.children (omega arith) i.0 (ap (λ (e : ElementRecord). e.children) c.get.ensures) i.2)

pub loop-place-preserved : goal.loop-place-preserved
loop-place-preserved c =
    let i = c.loop-place.invariant in (
      omega arith,
      omega (arith, i.1),
      ending_on c.args.elements.now c.loop-place.place c.loop-place.pending c.get.result.children (omega arith) i.0 (ap (λ (e : ElementRecord). e.children) c.get.ensures) i.2,
    )

pub returns : goal.returns
returns c =
    let i = c.loop-place.invariant in
    ending_never c.args.elements.now _ _ (omega arith) i.0 i.2
