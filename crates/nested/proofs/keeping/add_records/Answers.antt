use Rattle.std.proofs.Common.{◌≡◌, ◌<◌, ◌++◌, ◌∷◌, [], length, take, drop, ap, sym, ◌∙◌, append-nil, append_assoc, arith, length-append, length-drop}
use Rattle.std.proofs.lemmas.List.{take_more, get_or-drop, length-take-le}
use Rattle.format.specs.Records.{no_type}
use Rattle.sheet.specs.Seen.{types_in}
use Rattle.sheet.proofs.Copies.{looked}
use Rattle.sheet.proofs.Sheets.{type_records}
use Rattle.nested.proofs.keeping.add_records.Goals as goal
use Rattle.nested.proofs.keeping.add_records.Goals.{In-loop-k}

-- the records from the place on are as many as its span
long : (c : In-loop-k) → c.loop-k.k < length (drop c.args.here.place (types_in c.args.here.sheet.now))
long c =
    let w = looked c.args.here.sheet.now c.args.here.place c.record-span.result c.args.here.there c.record-span.ensures in
    omega (arith, w.within, length-drop c.args.here.place (types_in c.args.here.sheet.now))

pub loop-k-init : goal.loop-k-init
loop-k-init c = sym (append-nil c.args.types.now.items)

pub push-requires : goal.push-requires
push-requires c =
    let rest = drop c.args.here.place (types_in c.args.here.sheet.now) in
    let w = looked c.args.here.sheet.now c.args.here.place c.record-span.result c.args.here.there c.record-span.ensures in
    let n : length (take c.loop-k.k rest) ≡ c.loop-k.k = length-take-le c.loop-k.k rest (omega (arith, long (goal.at.push-requires c).In-loop-k)) in
    (omega arith, omega (arith, ap length c.loop-k.invariant, length-append c.args.types.now.items (take c.loop-k.k rest), n, w.spans))

pub loop-k-preserved : goal.loop-k-preserved
loop-k-preserved c =
    let rest = drop c.args.here.place (types_in c.args.here.sheet.now) in
    let same = c.record_behind.ensures ∙ sym (get_or-drop c.args.here.place (types_in c.args.here.sheet.now) c.loop-k.k no_type) in
    c.push.ensures.items ∙ (λ i. c.loop-k.invariant i ++ same i ∷ []) ∙ append_assoc c.args.types.now.items (take c.loop-k.k rest) _
    ∙ ap (λ l. c.args.types.now.items ++ l) (sym (take_more rest c.loop-k.k no_type (long (goal.at.loop-k-preserved c).In-loop-k)))

pub returns : goal.returns
returns c =
    let w = looked c.args.here.sheet.now c.args.here.place c.record-span.result c.args.here.there c.record-span.ensures in
    let all : c.loop-k.k ≡ c.record-span.result.span = omega arith in
    c.loop-k.invariant ∙ ap (λ l. c.args.types.now.items ++ l) (ap (λ n. take n (drop c.args.here.place (types_in c.args.here.sheet.now))) (all ∙ w.spans) ∙ type_records c.args.here.sheet.now c.args.here.place c.args.here.there)
