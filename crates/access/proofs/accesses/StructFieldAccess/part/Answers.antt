use Rattle.std.proofs.Common.{ap, ◌∙◌}
use Rattle.format.specs.declared.records.NodeRecord.{NodeRecord}
use Rattle.format.specs.Records.{name_bytes}
use Rattle.sheet.specs.Seen.{names_in}
use Rattle.access.proofs.Follows.{node_there}
use Rattle.access.proofs.accesses.StructFieldAccess.part.Goals as goal

pub returns : goal.returns
returns c =
    let s = c.args.sheet.now in
    c.name.ensures ∙ ap (λ (n : NodeRecord). name_bytes (names_in s) n.name) (c.record.ensures ∙ node_there s _ c.saturating_add-place.result c.saturating_add-place.ensures)
