use Rattle.checker.proofs.NodeTests.{column_none}
use Rattle.checker.proofs.nodes.column_name.Goals as goal

pub returns-in_default : goal.returns-in_default
returns-in_default c = let n = c.args.node in column_none n.sheet.now n.place n.there c.kind.result c.kind.ensures c.in_default.not-Column
