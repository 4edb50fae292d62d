use Rattle.std.proofs.Common.{vec_items}
use Rattle.format.proofs.Laying.{Sound, sound}
use Rattle.sheet.proofs.sheet.opening.open.Goals as goal
use Rattle.sheet.proofs.sheet.opening.open.Goals.{In-Ok}

here : (c : In-Ok) → Sound c.in-Ok.layout (vec_items c.args.bytes)
here c = sound (vec_items c.args.bytes) c.deref.result.now c.in-Ok.layout c.deref.ensures.value c.in-Ok.ensures

pub invariant_of-result : goal.invariant_of-result
invariant_of-result c =
    let s = here (goal.at.invariant_of-result c).In-Ok in
    record { laid = s.laid_out; few = s.few; types = s.types; roots = s.roots; leaves = s.leaves; parts = s.parts; elements = s.elements; nodes = s.nodes; expressions = s.expressions }

pub returns-in-Ok : goal.returns-in-Ok
returns-in-Ok c = (here (goal.at.returns-in-Ok c).In-Ok).whole
