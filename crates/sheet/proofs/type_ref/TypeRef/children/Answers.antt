use Rattle.std.proofs.Common.{ℕ, ◌+◌, sym, subst, arith}
use Rattle.format.specs.declared.records.TypeRecord.{TypeRecord}
use Rattle.sheet.specs.Spans.{Reach}
use Rattle.sheet.proofs.Readers.{type_children_fill}
use Rattle.sheet.proofs.Sheets.{few_types}
use Rattle.sheet.proofs.type_ref.TypeRef.children.Goals as goal

pub overflow_add-result : goal.overflow_add-result
overflow_add-result c = omega (arith, c.args.self.there, c.place.ensures, few_types c.args.self.sheet.now)

pub invariant_of-result : goal.invariant_of-result
invariant_of-result c =
    let s = c.args.self.sheet.now in
    let p = c.args.self.place in
    record {
      behind = omega (arith, c.place.ensures);
      reach = subst (λ (x : TypeRecord × ℕ). Reach s p x.0.children (x.1 + 1)) (λ i. (sym c.record.ensures i, sym c.place.ensures i)) (type_children_fill s p c.args.self.there);
    }
