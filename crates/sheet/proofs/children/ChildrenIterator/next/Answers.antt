use Rattle.std.proofs.Common.{◌≡◌, suc, ◌+◌, ◌-◌, ◌<◌, length, sym, ap, ◌∙◌, subst, arith}
use Rattle.format.specs.declared.records.TypeRecord.{TypeRecord}
use Rattle.sheet.specs.declared.children.Children.{Children}
use Rattle.sheet.specs.Seen.{types_in}
use Rattle.sheet.specs.Spans.{span_at, Reach}
use Rattle.sheet.proofs.Readers.{type_span_within}
use Rattle.sheet.proofs.Siblings.{First, first}
use Rattle.sheet.proofs.Sheets.{few_types}
use Rattle.sheet.proofs.children.ChildrenIterator.next.Goals as goal
use Rattle.sheet.proofs.children.ChildrenIterator.next.Goals.{After-record}

-- the first of the children that are left
foremost : (it : Children) → (it.left ≡ 0 → ⊥) → First it.above.sheet.now it.above.place (it.left - 1) it.next
foremost it some =
    let one : it.left ≡ suc (it.left - 1) = omega (arith, some) in
    first it.above.sheet.now it.above.place it.above.there (it.left - 1) it.next (subst (λ n. Reach it.above.sheet.now it.above.place n it.next) one it.reach)

spans : (c : After-record) → c.record.result.span ≡ span_at c.args.self.now.above.sheet.now c.args.self.now.next
spans c = ap (λ (t : TypeRecord). t.span) c.record.ensures ∙ (λ i. span_at ((c.at-child.ensures.sheet ∙ c.sheet.ensures) i) (c.at-child.ensures.place i))

pub at-child-requires : goal.at-child-requires
at-child-requires c = subst (λ s. c.args.self.now.next < length (types_in s)) (sym c.sheet.ensures) (foremost c.args.self.now c.if-self-eq0.false).there

pub overflow_add-self : goal.overflow_add-self
overflow_add-self c =
    let it = c.args.self.now in
    omega (arith, spans (goal.at.overflow_add-self c).After-record, (foremost it c.if-self-eq0.false).inside, type_span_within it.above.sheet.now it.above.place it.above.there, few_types it.above.sheet.now)

pub invariant_of-self : goal.invariant_of-self
invariant_of-self c =
    let it = c.args.self.now in
    let e = spans (goal.at.invariant_of-self c).After-record in
    record {
      behind = omega (arith, it.behind);
      reach = subst (λ n. Reach it.above.sheet.now it.above.place (it.left - 1) (it.next + n)) (sym e) (foremost it c.if-self-eq0.false).on;
    }
