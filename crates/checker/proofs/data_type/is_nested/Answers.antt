use Rattle.std.proofs.Common.{not, ap, ◌∙◌}
use Rattle.checker.proofs.TypeTests.{is_nested_kind, is_other_kind}
use Rattle.checker.proofs.data_type.is_nested.Goals as goal
use Rattle.checker.proofs.data_type.is_nested.Goals.{in-Leaf, in_default}

pub returns : goal.returns
returns c =
    let t = c.args.data_type in
    elim c.match-matches.branch [
      | in-Leaf w ↦ ap not w.matches-is ∙ is_nested_kind t.sheet.now t.place t.there c.kind.result c.kind.ensures w.in-Leaf.is
      | in_default w ↦ ap not w.matches-is ∙ is_other_kind t.sheet.now t.place t.there c.kind.result c.kind.ensures w.in_default.not-Leaf
    ]
