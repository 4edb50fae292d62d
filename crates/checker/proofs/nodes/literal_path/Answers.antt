use Rattle.std.proofs.Common.{◌+◌, ◌-◌, ◌≤◌, length, ap, ◌∙◌, sym, subst, refl, rules, arith}
use Rattle.std.proofs.lemmas.Iterator.{YieldsList-from_range, serves_from_Range}
use Rattle.std.proofs.lemmas.Iterator.Search.{all_from_yields_List}
use Rattle.std.specs.Bool.{then_some}
use Rattle.std.specs.List.{range_with_len, list_all}
use borrow.Author.Tests.{tests}
use Rattle.sheet.specs.SheetExpressions.{expr_at}
use Rattle.sheet.specs.declared.sheet.Sheet.{Sheet}
use Rattle.sheet.specs.Seen.{nodes_in}
use Rattle.sheet.proofs.NodeReaders.{few_nodes}
use Rattle.checker.specs.Visits.{Spelt, is_text_at, arguments_of, behind_first}
use Rattle.checker.proofs.Spelling.{spell_room, spells_all}
use Rattle.checker.proofs.nodes.literal_path.Goals as goal

pub overflow_add-first : goal.overflow_add-first
overflow_add-first c = let n = c.args.node in omega (arith, few_nodes n.sheet.now)

pub overflow_sub-end : goal.overflow_sub-end
overflow_sub-end c = let n = c.args.node in omega (arith, c.end_of-end.ensures.value, spell_room n.sheet.now n.place n.there c.requires.column)

pub returns : goal.returns
returns c =
    let n = c.args.node in
    let p = c.place-place.result in
    let end = c.end_of-end.result in
    let all = all_from_yields_List (is_text_at c.sheet-sheet.result.now) _ _ c.all.result c.all.ensures.ran (YieldsList-from_range (p + 2) end (end - (p + 2)) refl refl) (λ x b q k. search (rules, tests)) in
    let is = c.then_some.ensures ∙ ap (λ b. then_some b (end - (p + 2))) all
    ∙ (λ i. let left = c.end_of-end.ensures.value i - (c.place-place.ensures i + 2) in then_some (list_all (is_text_at (c.sheet-sheet.ensures i)) (range_with_len (c.place-place.ensures i + 2) left)) left) in
    subst (Spelt n.sheet.now (n.place + 2) (behind_first (arguments_of (expr_at n.sheet.now n.place)))) (sym is) (spells_all n.sheet.now n.place n.there c.requires.column)

pub all-requires-clause-callable : goal.all-requires-clause-callable
all-requires-clause-callable c =
    let low : c.end_of-end.result ≤ length (nodes_in c.sheet-sheet.result.now) = subst (λ (s : Sheet). c.end_of-end.result ≤ length (nodes_in s)) (sym c.sheet-sheet.ensures) c.end_of-end.ensures.within in
    serves_from_Range (λ x q k. search (rules, tests)) (λ x from to. search (rules, tests))
