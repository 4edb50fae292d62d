use Rattle.std.proofs.Common.{sym, ◌∙◌, arith}
use Rattle.format.proofs.Passes.{none_bad, not_whole, early_end, full_end}
use Rattle.format.proofs.elements.first_bad_element.Goals as goal

pub returns-then-count-eq0 : goal.returns-then-count-eq0
returns-then-count-eq0 c = none_bad c.args.layout c.args.elements.now (sym c.count-count.ensures ∙ c.if-count-eq0.true)

pub returns-in_default : goal.returns-in_default
returns-in_default c = not_whole c.args.layout c.args.elements.now (omega (arith, c.count-count.ensures)) c.in_default.ensures

pub returns-then-end-count : goal.returns-then-end-count
returns-then-end-count c = early_end c.args.layout c.args.elements.now (omega (arith, c.count-count.ensures)) c.in-Some.end c.in-Some.ensures (omega (arith, c.count-count.ensures))

pub returns : goal.returns
returns c =
    c.earlier.ensures
    ∙ full_end c.args.layout c.args.elements.now (omega (arith, c.count-count.ensures)) c.in-Some.end c.in-Some.ensures (omega (arith, c.count-count.ensures)) c.first_unfair.result c.first_deep.result c.first_unfair.ensures c.first_deep.ensures
