use Rattle.std.proofs.Common.{◌≡◌, ℕ, ◌+◌, ◌-◌, Some, eqb, length, drop, sym, ap, subst, ◌∙◌, inl, inr, arith, rules, length-drop, length-take-le}
use Rattle.std.proofs.lemmas.List.{length-map}
use denote.Enum.Bare.{differs_true, differs_false}
use Rattle.rules.specs.Keeping.{onward}
use Rattle.rules.specs.Trees.{preorder, size}
use Rattle.format.specs.declared.kinds.TypeKind.TheVariants.{Struct}
use Rattle.sheet.specs.SheetTrees.{type_tree}
use Rattle.sheet.proofs.Readers.{type_span, name_at}
use Rattle.access.specs.Accesses.{path_at}
use Rattle.access.specs.Following.{left, kept_at}
use Rattle.access.proofs.Prunes.{Pruning, kind_other, whole_kept, prune_starts, child_is, fits, child_dropped, child_kept, long_enough, struct_written}
use Rattle.access.proofs.prune.+prune.Goals as goal
use Rattle.access.proofs.prune.+prune.Goals.{then-ne-via-then-ne, then-ne-via-else-ne+then-ends_here, After-is_empty}

pub returns-then-ne : goal.returns-then-ne
returns-then-ne t c =
    let s = c.args.here.sheet.now in
    let p = c.args.here.place in
    let ps = left s c.args.level.depth c.args.level.accesses.now in
    let e = sym (whole_kept s ps p c.args.here.there (elim c.then-ne.branch [
      | then-ne-via-then-ne w ↦ inl (kind_other _ _ c.kind.ensures (search (rules, differs_true)))
      | then-ne-via-else-ne+then-ends_here w ↦ inr (w.if-ends_here.ensures s)
    ])) in
    record { copied = c.copy_into.ensures.copied ∙ ap preorder e; count = c.copy_into.ensures.count ∙ ap size e }

pub loop-child-init : goal.loop-child-init
loop-child-init t c =
    let s = c.args.here.sheet.now in
    let ps = left s c.args.level.depth c.args.level.accesses.now in
    let e = c.children-child-items.ensures in
    subst (λ it. Pruning c.args.here ps c.record-head.result c.args.fields.now it 1 0 c.args.fields.now) (sym c.into_iter-child-iterator.ensures.into_iter_gives)
    (prune_starts c.args.here ps c.record-head.result c.args.fields.now c.children-child-items.result c.record-head.ensures e.above e.next e.left c.requires.room)

pub offset_bounds-fields-written : goal.offset_bounds-fields-written
offset_bounds-fields-written t c = omega (arith, (fits c.loop-child.invariant c.in-Some.ensures.steps).short)

pub slice_bounds-prune-count : goal.slice_bounds-prune-count
slice_bounds-prune-count t c = (fits c.loop-child.invariant c.in-Some.ensures.steps).inside

pub slice_bounds-prune-start : goal.slice_bounds-prune-start
slice_bounds-prune-start t c = (fits c.loop-child.invariant c.in-Some.ensures.steps).inside

pub prune-written-requires : goal.prune-written-requires
prune-written-requires t c =
    let w = fits c.loop-child.invariant c.in-Some.ensures.steps in
    let same = (child_is c.loop-child.invariant c.in-Some.ensures.steps).sheet in
    let span = ap (λ s. type_span s c.in-Some.child.place) same in
    let long = ap (λ s. size (type_tree s c.in-Some.child.place)) same in
    let low = w.low c.args.level.depth c.requires.low in (
      omega (arith, w.less, c.decreases, span),
      (
        omega (arith, w.room, long, length-take-le (length c.loop-child.fields - c.loop-child.written) (drop c.loop-child.written c.loop-child.fields) (omega (arith, length-drop c.loop-child.written c.loop-child.fields))),
        omega (arith, low, long),
      ),
    )

pub overflow_add-written : goal.overflow_add-written
overflow_add-written t c =
    let child = c.in-Some.child in
    let onw = left child.sheet.now c.at-deeper.result.depth c.at-deeper.result.accesses.now in
    let kept = ap (λ s. size (kept_at s onw child.place)) (child_is c.loop-child.invariant c.in-Some.ensures.steps).sheet in
    omega (arith, (fits c.loop-child.invariant c.in-Some.ensures.steps).fits onw, kept, c.prune-written.ensures.count)

pub overflow_add-children : goal.overflow_add-children
overflow_add-children t c = omega (arith, (fits c.loop-child.invariant c.in-Some.ensures.steps).few)

-- the paths that go on at the child
goes : (t : ℕ) (c : After-is_empty t) → left c.args.here.sheet.now (c.args.level.depth + 1) c.onward.new.paths.items ≡ onward (name_at c.args.here.sheet.now c.in-Some.child.place) (left c.args.here.sheet.now c.args.level.depth c.args.level.accesses.now)
goes t c =
    let same = (child_is c.loop-child.invariant c.in-Some.ensures.steps).sheet in
    sym (ap (λ s. left s (c.args.level.depth + 1) c.onward.new.paths.items) same) ∙ c.onward.ensures ∙ ap (λ s. onward (name_at s c.in-Some.child.place) (left s c.args.level.depth c.args.level.accesses.now)) same

many : (t : ℕ) (c : After-is_empty t) → length c.onward.new.paths.items ≡ length (left c.args.here.sheet.now (c.args.level.depth + 1) c.onward.new.paths.items)
many t c = sym (length-map c.onward.new.paths.items (λ a. drop (c.args.level.depth + 1) (path_at c.args.here.sheet.now a)))

pub loop-child-preserved-then-not-is_empty : goal.loop-child-preserved-then-not-is_empty
loop-child-preserved-then-not-is_empty t c =
    let s = c.args.here.sheet.now in
    let same = (child_is c.loop-child.invariant c.in-Some.ensures.steps).sheet in
    let went = (goal.at.loop-child-preserved-then-not-is_empty t c).After-is_empty in
    let onw = left s (c.args.level.depth + 1) c.onward.new.paths.items in
    let kept : kept_at c.in-Some.child.sheet.now (left c.in-Some.child.sheet.now c.at-deeper.result.depth c.at-deeper.result.accesses.now) c.in-Some.child.place ≡ kept_at s onw c.in-Some.child.place
    = λ j. kept_at (same j) (left (same j) ((c.at-deeper.ensures.depth ∙ ap (λ n. n + 1) c.depth.ensures) j) (c.at-deeper.ensures.accesses j)) c.in-Some.child.place in
    child_kept c.loop-child.invariant c.in-Some.ensures.steps onw (goes t went) (c.if-not-is_empty.ensures ∙ ap (λ n. eqb n 0) (many t went)) c.prune-written.result c.prune-written.new.fields _
    (c.prune-written.ensures.copied ∙ ap preorder kept) (c.prune-written.ensures.count ∙ ap size kept) c.prune-written.auto.fields (search rules)

pub loop-child-preserved : goal.loop-child-preserved
loop-child-preserved t c =
    let went = (goal.at.loop-child-preserved t c).After-is_empty in
    child_dropped c.loop-child.invariant c.in-Some.ensures.steps (left c.args.here.sheet.now (c.args.level.depth + 1) c.onward.new.paths.items) (goes t went) (c.if-not-is_empty.ensures ∙ ap (λ n. eqb n 0) (many t went))

pub overflow_cast-fields : goal.overflow_cast-fields
overflow_cast-fields t c = omega (arith, (long_enough c.loop-child.invariant c.in-None.ensures.steps).1)

pub returns : goal.returns
returns t c =
    let two : c.kind.result ≡ Struct = search (rules, differs_false) in
    let a = struct_written c.loop-child.invariant c.in-None.ensures.steps (c.kind.ensures ∙ ap Some two) (c.if-ends_here.ensures c.args.here.sheet.now) c.requires.room in
    record { copied = a.0; count = a.1 }
