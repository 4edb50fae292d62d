use Rattle.std.proofs.Common.{refl, sym, ◌∙◌}
use Rattle.checker.specs.Settings.{sheet_of}
use Rattle.checker.specs.Visits.{kind_at}
use Rattle.checker.proofs.Ruled.{others_need}
use Rattle.checker.proofs.state.PushdownChecker.f_down.Goals as goal

pub returns-in_default-clause-visited : goal.returns-in_default-clause-visited
returns-in_default-clause-visited c =
    let k = c.args.self.now in
    let n = c.at-node.ensures in
    let o = c.in_default in
    let kind = (λ i. kind_at (sym n.sheet i) (sym n.place i)) ∙ c.kind.ensures in
    (refl, others_need (sheet_of k) k.allow_list_columns k.collect_cast_accesses c.args.place c.requires.there c.kind.result kind o.not-GetField o.not-Cast o.not-Column o.not-InputFileName o.not-FileRowIndex)
