use Rattle.std.proofs.Common.{length, vec_items, sym, ap, subst}
use Rattle.format.specs.declared.layout.Section.{Section}
use Rattle.format.specs.Records.{Inside}
use Rattle.sheet.proofs.sheet.Sheet.records.Goals as goal

-- the section of the records lies inside the sheet's bytes
pub of-requires : goal.of-requires
of-requires g c =
    let s = c.args.self.now in
    let law = g.met.R.SectionRecord.lies s.layout (length (vec_items s.bytes)) s.laid in
    let here = subst (λ (x : Section). Inside g.R.Record.width x.count x.start (length (vec_items s.bytes))) (sym c.section.ensures) law in
    subst (Inside g.R.Record.width c.section.result.count c.section.result.start) (sym (ap length c.deref.ensures.value)) here
