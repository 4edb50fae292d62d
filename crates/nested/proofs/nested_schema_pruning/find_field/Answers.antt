use Rattle.std.proofs.Common.{sym, ◌∙◌}
use Rattle.nested.proofs.Finding.{hit, miss}
use Rattle.nested.proofs.nested_schema_pruning.find_field.Goals as goal

pub returns-then-eq : goal.returns-then-eq
returns-then-eq c =
    let x = hit c.args.here c.args.name.now c.loop-child.invariant c.in-Some.ensures.steps c.name.result.now c.name.ensures (sym c.eq.ensures ∙ c.if-eq.true) c.place.result c.place.ensures in
    record { found = x.0; inside = x.1 }

pub loop-child-preserved : goal.loop-child-preserved
loop-child-preserved c = miss c.args.here c.args.name.now c.loop-child.invariant c.in-Some.ensures.steps c.name.result.now c.name.ensures (sym c.eq.ensures ∙ c.if-eq.false)
