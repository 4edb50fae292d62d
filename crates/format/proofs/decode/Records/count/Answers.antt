use Rattle.std.proofs.Common.{length, sym, ap, ◌∙◌}
use Rattle.format.proofs.Tables.{length-table}
use Rattle.format.proofs.decode.Records.count.Goals as goal

pub returns : goal.returns
returns g c =
    let r = c.self.inside in
    sym (length-table g.R.Record.width g.R.Record.from r.bytes.now r.section.start r.section.count) ∙ ap length c.self.view_is
