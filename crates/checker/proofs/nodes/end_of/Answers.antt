use Rattle.std.proofs.Common.{ap, arith}
use Rattle.format.specs.declared.records.NodeRecord.{NodeRecord}
use Rattle.sheet.proofs.NodeReaders.{few_nodes, node_span_within}
use Rattle.checker.proofs.nodes.end_of.Goals as goal

pub overflow_add-result : goal.overflow_add-result
overflow_add-result c =
    let n = c.args.node in
    let span = ap (λ (r : NodeRecord). r.span) c.record.ensures in
    omega (arith, span, few_nodes n.sheet.now, node_span_within n.sheet.now n.place n.there)

pub returns-clause-within : goal.returns-clause-within
returns-clause-within c =
    let n = c.args.node in
    let span = ap (λ (r : NodeRecord). r.span) c.record.ensures in
    omega (arith, span, node_span_within n.sheet.now n.place n.there)
