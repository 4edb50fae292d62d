use Rattle.std.proofs.Common.{◌-◌, ◌≤◌, length, sym, subst, ◌∙◌, refl, rules}
use Rattle.std.proofs.lemmas.Iterator.{YieldsList-from_range, serves_from_Range}
use Rattle.std.proofs.lemmas.Iterator.Search.{any_from_yields_List}
use Rattle.std.specs.List.{range_with_len, list_any}
use borrow.Author.Tests.{tests}
use Rattle.sheet.specs.declared.sheet.Sheet.{Sheet}
use Rattle.sheet.specs.Seen.{nodes_in}
use Rattle.checker.proofs.Asked.{asked, asks_all}
use Rattle.checker.proofs.supported_predicates.supports_list_predicates.Goals as goal

pub returns : goal.returns
returns c =
    let n = c.args.node in
    let p = c.place-place.result in
    let end = c.end_of.result in
    any_from_yields_List (asked c.sheet-sheet.result.now) _ _ _ c.any.ensures.ran (YieldsList-from_range p end (end - p) refl refl) (λ x b q k. search (rules, tests))
    ∙ (λ i. list_any (asked (c.sheet-sheet.ensures i)) (range_with_len (c.place-place.ensures i) (c.end_of.ensures.value i - c.place-place.ensures i)))
    ∙ asks_all n.sheet.now n.place n.there

pub any-requires-clause-callable : goal.any-requires-clause-callable
any-requires-clause-callable c =
    let low : c.end_of.result ≤ length (nodes_in c.sheet-sheet.result.now) = subst (λ (s : Sheet). c.end_of.result ≤ length (nodes_in s)) (sym c.sheet-sheet.ensures) c.end_of.ensures.within in
    serves_from_Range (λ x q k. search (rules, tests)) (λ x from to. search (rules, tests))
