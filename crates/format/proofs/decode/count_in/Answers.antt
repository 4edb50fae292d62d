use Rattle.std.proofs.Common.{sym}
use Rattle.format.proofs.Tables.{length-table}
use Rattle.format.proofs.decode.count_in.Goals as goal

pub returns : goal.returns
returns g c =
    let R = g.R.Record in
    let s = c.args.section in
    sym (length-table R.width R.from c.args.bytes.now s.start s.count)
