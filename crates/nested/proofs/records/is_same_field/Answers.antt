use Rattle.std.proofs.Common.{◌&&◌, sym, ◌∙◌}
use Rattle.std.proofs.lemmas.Slice.Eq.{slice_eq-Decides}
use Rattle.std.proofs.lemmas.Bool.{eq-eqb}
use Rattle.std.specs.Str.{bytes_eq}
use Rattle.format.specs.Records.{name_bytes}
use Rattle.sheet.specs.Seen.{names_in}
use Rattle.nested.proofs.Finding.{names_compare}
use Rattle.nested.proofs.records.is_same_field.Goals as goal
use Rattle.std.proofs.lemmas.Bool.Decides.{Decides-eqb}

pub returns-then-one-other : goal.returns-then-one-other
returns-then-one-other c =
    let one = c.args.one in
    let other = c.args.other in
    let names = names_in c.args.sheet.now in
    let says = names_compare c.eq.result c.name.result.now c.name-then-one-other.result.now _ _ (slice_eq-Decides Decides-eqb _ _ _ c.eq.ensures) c.name.ensures c.name-then-one-other.ensures in
    says ∙ (λ i. c.if-not-is_same_top.ensures i && (sym (eq-eqb one.nullable other.nullable c.if-one-other.true) i && bytes_eq (name_bytes names one.name) (name_bytes names other.name)))
