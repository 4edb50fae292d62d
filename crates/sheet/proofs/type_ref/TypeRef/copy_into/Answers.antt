use Rattle.std.proofs.Common.{◌≡◌, ◌≤◌, length, take, drop, sym, ap, ◌∙◌, arith}
use Rattle.std.proofs.lemmas.List.{take-append-le, length-take-le}
use Rattle.sheet.proofs.Copies.{Looked, looked, one_copied, all_copied}
use Rattle.sheet.proofs.type_ref.TypeRef.copy_into.Goals as goal
use Rattle.sheet.proofs.type_ref.TypeRef.copy_into.Goals.{After-record-span}

-- the span of the type, as it was looked up
span : (c : After-record-span) → Looked c.args.self.sheet.now c.args.self.place c.record-span.result
span c = looked c.args.self.sheet.now c.args.self.place c.record-span.result c.args.self.there c.record-span.ensures

-- so many records are lent
room : (c : After-record-span) → c.record-span.result.span ≤ length c.args.fields.now
room c = omega (arith, (span c).spans, c.requires)

lent : (c : After-record-span) → length (take c.record-span.result.span c.args.fields.now) ≡ c.record-span.result.span
lent c = length-take-le c.record-span.result.span c.args.fields.now (room c)

pub slice_bounds-field-items-end : goal.slice_bounds-field-items-end
slice_bounds-field-items-end c = room (goal.at.slice_bounds-field-items-end c).After-record-span

pub slice_bounds-field-items-end-2 : goal.slice_bounds-field-items-end-2
slice_bounds-field-items-end-2 c = sym (lent (goal.at.slice_bounds-field-items-end-2 c).After-record-span)

pub overflow_add-self : goal.overflow_add-self
overflow_add-self c =
    let h = (goal.at.overflow_add-self c).After-record-span in
    omega (arith, (span h).low, lent h)

pub loop-k-preserved : goal.loop-k-preserved
loop-k-preserved c =
    let h = (goal.at.loop-k-preserved c).After-record-span in
    one_copied c.args.self.sheet.now c.args.self.place c.loop-k.field-items c.loop-k.k c.record.result (omega arith) (omega (arith, (span h).within, lent h)) c.record.ensures c.loop-k.invariant

pub returns : goal.returns
returns c =
    let h = (goal.at.returns c).After-record-span in
    let n = c.record-span.result.span in
    let xs = c.loop-k.field-items in
    let long : length xs ≡ n = omega (arith, lent h) in
    let all : n ≡ c.loop-k.k = omega (arith, lent h) in
    record {
      copied = take-append-le n xs (drop n c.args.fields.now) (omega (arith, long)) ∙ ap (λ m. take m xs) all
          ∙ all_copied c.args.self.sheet.now c.args.self.place c.args.self.there xs c.loop-k.k (omega (arith, all, (span h).spans)) c.loop-k.invariant;
      count = (span h).spans;
    }
