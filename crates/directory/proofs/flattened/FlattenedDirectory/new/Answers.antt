use Rattle.std.proofs.Common.{ℕ, ◌+◌, ◌<◌, ◌≤◌, ◌∷◌, List, length, set, replicate, sym, ap, ◌∙◌, subst, arith}
use lib.ListN.{length-replicate}
use Rattle.format.specs.declared.records.ElementRecord.{ElementRecord}
use Rattle.sheet.proofs.Sheets.{few_elements}
use Rattle.sheet.specs.Seen.{elements_in}
use Rattle.format.specs.declared.opens.Open.{Open}
use Rattle.directory.specs.declared.flattened.rows.ElementRow.{ElementRow}
use Rattle.directory.specs.Building.{seat_of}
use Rattle.directory.proofs.Turns.{Built, all_zero, begins, turn_opened, turn_passed, rooted, led}
use Rattle.directory.proofs.flattened.FlattenedDirectory.new.Goals as goal
use Rattle.directory.proofs.flattened.FlattenedDirectory.new.Goals.{then-children-gt0, else-children-gt0}

pub loop-e-init : goal.loop-e-init
loop-e-init c = subst (λ (x : List ElementRow × List (Open ElementRow)). Built c.args.sheet.now 1 0 x.0 (replicate 1024 0) x.1) (λ k. (sym c.new-rows.ensures k, sym c.new-opens.ensures k)) (begins c.args.sheet.now (replicate 1024 0) (length-replicate {A = ℕ} 1024 0) (all_zero 1024))

pub bounds-parents-e : goal.bounds-parents-e
bounds-parents-e c = omega (arith, few_elements c.args.sheet.now, c.count-e-end.ensures)

pub loop-e-preserved : goal.loop-e-preserved
loop-e-preserved c =
    let s = c.args.sheet.now in
    let l = c.loop-e in
    let rows = l.rows.items in
    let there : l.e < length (elements_in s) = omega (arith, c.count-e-end.ensures) in
    let seat = c.next_seat-seat.result in
    let sits = c.next_seat-seat.ensures ∙ ap (λ o. seat_of o l.roots) c.innermost.ensures in
    let row : ElementRow = record { element = l.e; root = seat.root; parts = seat.above + 1 } in
    let kids = ap (λ (r : ElementRecord). r.children) c.record-children.ensures in
    let parents = set l.parents l.e seat.parent in
    elim c.if-children-gt0.branch [
      | then-children-gt0 w ↦
          let on = turn_opened s l.e l.roots rows l.parents l.opens l.invariant there seat sits c.record-children.result.children kids w.if-children-gt0.true in
          let is = w.opens-is ∙ w.open.ensures ∙ (λ k. record { left = c.record-children.result.children; told = row } ∷ c.take_child.ensures k) in
          subst (λ (x : List ElementRow × List (Open ElementRow)). Built s (l.e + 1) seat.roots x.0 parents x.1) (λ k. (sym (ap (λ v. v.items) w.rows-is) k, sym is k)) on
      | else-children-gt0 w ↦
          let on = turn_passed s l.e l.roots rows l.parents l.opens l.invariant there seat sits c.record-children.result.children kids (omega (arith, w.if-children-gt0.false)) in
          let more = ap (λ v. v.items) w.rows-is ∙ w.push.ensures.items in
          let is = w.opens-is ∙ c.take_child.ensures in
          subst (λ (x : List ElementRow × List (Open ElementRow)). Built s (l.e + 1) seat.roots x.0 parents x.1) (λ k. (sym more k, sym is k)) on
    ]

pub invariant_of-result : goal.invariant_of-result
invariant_of-result c =
    let s = c.args.sheet.now in
    let l = c.loop-e in
    let over : length (elements_in s) ≤ l.e = omega (arith, c.count-e-end.ensures) in
    record {
      wide = l.invariant.parents_long;
      inside = l.invariant.inside;
      climbs = l.invariant.climbs;
      rooted = rooted s l.e l.roots l.rows.items l.parents l.opens l.invariant over;
      led = led s l.e l.roots l.rows.items l.parents l.opens l.invariant over;
    }
