use Rattle.std.proofs.Common.{◌≡◌, ◌+◌, ◌≤◌, length, get_or, inl, inr, sym, ap, ◌∙◌, arith}
use Rattle.std.proofs.lemmas.List.{get_or_past}
use Rattle.std.proofs.lemmas.Bool.{cases_lt}
use Rattle.format.specs.Records.{no_type}
use Rattle.sheet.specs.Seen.{types_in}
use Rattle.sheet.proofs.Sheets.{few_types}
use Rattle.nested.proofs.records.record_behind.Goals as goal

-- where the sum does not fit, both places are beyond the table
pub returns : goal.returns
returns c =
    let s = c.args.here.sheet.now in
    let few : length (types_in s) ≤ 2048 = few_types s in
    let at = c.saturating_add.result in
    let here : c.record.result ≡ get_or (types_in s) at no_type = c.record.ensures ∙ ap (λ z. get_or (types_in z) at no_type) c.sheet.ensures in
    elim (cases_lt (c.args.here.place + c.args.k) 4096) [
      | inl l ↦ let e : at ≡ c.args.here.place + c.args.k = omega (arith, c.saturating_add.ensures, c.place.ensures) in here ∙ ap (λ n. get_or (types_in s) n no_type) e
      | inr l ↦
          let far : length (types_in s) ≤ at = omega (arith, c.saturating_add.ensures, c.place.ensures) in
          let beyond : length (types_in s) ≤ c.args.here.place + c.args.k = omega arith in
          here ∙ get_or_past (types_in s) at no_type far ∙ sym (get_or_past (types_in s) (c.args.here.place + c.args.k) no_type beyond)
    ]
