use Rattle.std.proofs.Common.{ap, ◌∙◌}
use Rattle.format.specs.declared.records.TypeRecord.{TypeRecord}
use Rattle.nested.proofs.Counting.{all_counted}
use Rattle.nested.proofs.nested_schema_pruning.count_leaves.Goals as goal

pub returns : goal.returns
returns c = c.leaves_among.ensures ∙ all_counted c.args.here.sheet.now c.args.here.place c.args.here.there c.record.result.span (ap (λ (t : TypeRecord). t.span) c.record.ensures)
