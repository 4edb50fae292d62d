use Rattle.std.proofs.Common.{◌+◌, ◌<◌, ◌∷◌, length, sym, ap, ◌∙◌, subst, arith}
use Rattle.format.specs.declared.records.ElementRecord.{ElementRecord}
use Rattle.format.proofs.Passes.{Levelled, none_open, too_deep, next_open, none_opened, all_low}
use Rattle.format.proofs.elements.first_deep.Goals as goal
use Rattle.format.proofs.elements.first_deep.Goals.{then-children-gt0, else-children-gt0}

pub returns-in_err-level : goal.returns-in_err-level
returns-in_err-level c t e whole =
    absurd (none_open c.args.elements.now c.loop-place.place c.loop-place.opens c.loop-place.invariant (sym c.in_err-level.was ∙ c.innermost.ensures) (omega (arith, c.count-place-end.ensures)) t e whole)

pub returns-then-level-gt-MAX_DEPTH : goal.returns-then-level-gt-MAX_DEPTH
returns-then-level-gt-MAX_DEPTH c t e whole =
    too_deep c.args.elements.now c.loop-place.place c.loop-place.opens c.loop-place.invariant (omega (arith, c.count-place-end.ensures)) c.in_ok-level.level (sym c.in_ok-level.was ∙ c.innermost.ensures) c.if-level-gt-MAX_DEPTH.true t e

pub loop-place-preserved : goal.loop-place-preserved
loop-place-preserved c =
    let es = c.args.elements.now in
    let l = c.loop-place in
    let there : l.place < length es = omega (arith, c.count-place-end.ensures) in
    let told = sym c.in_ok-level.was ∙ c.innermost.ensures in
    let is = ap (λ (e : ElementRecord). e.children) c.get-children.ensures in
    let on = Levelled es (l.place + 1) in
    elim c.if-children-gt0.branch [
      | then-children-gt0 w ↦
          subst on (sym (w.opens-is ∙ w.open-then-children-gt0.ensures ∙ (λ k. record { left = c.get-children.result.children; told = c.in_ok-level.level + 1 } ∷ c.take_child.ensures k)))
          (next_open es l.place l.opens l.invariant there c.in_ok-level.level c.get-children.result.children told (omega arith) is w.if-children-gt0.true)
      | else-children-gt0 w ↦
          subst on (sym (w.opens-is ∙ c.take_child.ensures))
          (none_opened es l.place l.opens l.invariant there c.in_ok-level.level c.get-children.result.children told (omega arith) is (omega (arith, w.if-children-gt0.false)))
    ]

pub returns : goal.returns
returns c t e whole = all_low c.args.elements.now c.loop-place.place c.loop-place.opens c.loop-place.invariant (omega (arith, c.count-place-end.ensures)) t e
