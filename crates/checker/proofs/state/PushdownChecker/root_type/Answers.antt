use Rattle.std.proofs.Common.{sym, ◌∙◌}
use Rattle.sheet.specs.SheetExpressions.{type_at_place}
use Rattle.checker.specs.Settings.{sheet_of}
use Rattle.checker.proofs.Rooted.{root_type}
use Rattle.checker.proofs.state.PushdownChecker.root_type.Goals as goal

pub returns-clause-root : goal.returns-clause-root
returns-clause-root c =
    let s = sheet_of c.args.self.now in
    (λ i. type_at_place (c.of_root.ensures.sheet i) (c.of_root.ensures.place i)) ∙ sym (root_type s c.args.root c.requires)
