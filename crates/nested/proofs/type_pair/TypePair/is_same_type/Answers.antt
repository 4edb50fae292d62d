use Rattle.std.proofs.Common.{◌∙◌}
use Rattle.nested.proofs.SameWalks.{other_tops, all_same}
use Rattle.nested.proofs.type_pair.TypePair.is_same_type.Goals as goal

pub returns-then-is_same_top : goal.returns-then-is_same_top
returns-then-is_same_top c =
    c.is_same_below.ensures ∙ all_same c.args.self.sheet.now c.args.self.place c.args.self.goal c.args.self.here c.args.self.there c.record-top.result c.record.result c.record-top.ensures c.record.ensures c.if-is_same_top.ensures

pub returns-else-is_same_top : goal.returns-else-is_same_top
returns-else-is_same_top c =
    c.if-is_same_top.false ∙ other_tops c.args.self.sheet.now c.args.self.place c.args.self.goal c.args.self.here c.args.self.there c.record-top.result c.record.result c.record-top.ensures c.record.ensures c.if-is_same_top.ensures
