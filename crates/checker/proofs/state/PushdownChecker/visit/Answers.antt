use Rattle.std.proofs.Common.{◌≡◌, ◌+◌, sym, refl, ap, ◌∙◌, subst, arith}
use Rattle.format.specs.declared.records.NodeRecord.{NodeRecord}
use Rattle.sheet.specs.declared.sheet.Sheet.{Sheet}
use Rattle.sheet.proofs.NodeReaders.{node_span, few_nodes}
use Rattle.checker.specs.Found.{found}
use Rattle.checker.specs.Notes.{noted}
use Rattle.checker.specs.Rules.{steps_of}
use Rattle.checker.specs.Settings.{sheet_of, findings_at}
use Rattle.checker.proofs.Walking.{Walking, walk_start, walk_room, walk_over, walk_on, walk_forward}
use Rattle.checker.proofs.state.PushdownChecker.visit.Goals as goal

pub loop-at-init : goal.loop-at-init
loop-at-init c =
    let k = c.args.self.now in
    let s = sheet_of k in
    let p = c.args.place in
    let end = c.end_of-end.ensures.value ∙ (λ i. c.at.ensures.place i + node_span (c.at.ensures.sheet i) (c.at.ensures.place i)) in
    subst (λ e. Walking s k.allow_list_columns k.collect_cast_accesses (noted (found k) (findings_at k p)) p p e k) (sym end)
    (walk_start s k.allow_list_columns k.collect_cast_accesses p k c.requires.there (record { schema = refl; lists_as = refl; casts_as = refl }) c.requires.accesses c.requires.casts)

pub f_down-requires-clause-accesses : goal.f_down-requires-clause-accesses
f_down-requires-clause-accesses c = let l = c.loop-at in (walk_room _ _ _ _ _ l.at _ l.self l.invariant c.loop-at-test.true).1

pub f_down-requires-clause-casts : goal.f_down-requires-clause-casts
f_down-requires-clause-casts c = let l = c.loop-at in (walk_room _ _ _ _ _ l.at _ l.self l.invariant c.loop-at-test.true).2

-- how far the turn goes on
gone : (c : goal.After-steps-at) → c.steps-at.result ≡ steps_of c.f_down.result (node_span (sheet_of c.args.self.now) c.loop-at.at)
gone c =
    let l = c.loop-at in
    let span = ap (λ (r : NodeRecord). r.span) c.record-span.ensures ∙ ap (λ (t : Sheet). node_span t l.at) l.invariant.settings.schema in
    c.steps-at.ensures ∙ ap (steps_of c.f_down.result) span

pub overflow_add-at : goal.overflow_add-at
overflow_add-at c =
    let l = c.loop-at in
    let on = walk_forward _ _ _ _ _ l.at _ l.self l.invariant c.loop-at-test.true c.f_down.new.self c.f_down.ensures.settings c.f_down.result in
    let low = walk_room _ _ _ _ _ l.at _ l.self l.invariant c.loop-at-test.true in
    omega (arith, on.1, low.0, few_nodes (sheet_of c.args.self.now), gone c)

pub loop-at-smaller : goal.loop-at-smaller
loop-at-smaller c =
    let l = c.loop-at in
    let on = walk_forward _ _ _ _ _ l.at _ l.self l.invariant c.loop-at-test.true c.f_down.new.self c.f_down.ensures.settings c.f_down.result in
    omega (arith, on.0, gone c)

pub loop-at-preserved : goal.loop-at-preserved
loop-at-preserved c =
    let k = c.args.self.now in
    let l = c.loop-at in
    subst (λ n. Walking (sheet_of k) k.allow_list_columns k.collect_cast_accesses (noted (found k) (findings_at k c.args.place)) c.args.place (l.at + n) c.end_of-end.result c.f_down.new.self) (sym (gone c))
    (walk_on _ _ _ _ _ l.at _ l.self l.invariant c.loop-at-test.true c.f_down.new.self c.f_down.ensures.settings c.f_down.result c.f_down.ensures.visited)

pub returns-clause-notes : goal.returns-clause-notes
returns-clause-notes c = let l = c.loop-at in walk_over _ _ _ _ _ l.at _ l.self l.invariant c.loop-at-test.false
