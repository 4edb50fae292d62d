use Rattle.std.proofs.Common.{◌+◌, ◌*◌, get_or, sym, ap, ◌∙◌}
use Rattle.format.proofs.Tables.{record_at, record_past}
use Rattle.format.proofs.decode.Records.get.Goals as goal

pub returns-then-place-self : goal.returns-then-place-self
returns-then-place-self g c =
    let R = g.R.Record in
    let r = c.self.inside in
    g.met.R.Record.defaults _ c.default.ensures ∙ sym (record_past R.width R.from r.bytes.now r.section.start r.section.count R.blank c.args.place c.if-place-self.true)
    ∙ ap (λ rs. get_or rs c.args.place R.blank) c.self.view_is

pub returns : goal.returns
returns g c =
    let R = g.R.Record in
    let r = c.self.inside in
    c.read.ensures ∙ ap (λ w. R.from r.bytes.now (r.section.start + w * c.args.place)) c.size.ensures
    ∙ sym (record_at R.width R.from r.bytes.now r.section.start r.section.count R.blank c.args.place c.if-place-self.false)
    ∙ ap (λ rs. get_or rs c.args.place R.blank) c.self.view_is
