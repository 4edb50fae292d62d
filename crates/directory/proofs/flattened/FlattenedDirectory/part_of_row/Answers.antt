use Rattle.std.proofs.Common.{Some, sym, ap, ◌∙◌, arith}
use Rattle.format.specs.declared.records.ElementRecord.{ElementRecord}
use Rattle.format.specs.Records.{name_bytes}
use Rattle.sheet.proofs.Sheets.{few_elements}
use Rattle.sheet.specs.Seen.{names_in}
use Rattle.directory.specs.Rows.{name_at}
use Rattle.directory.proofs.Answered.{path_past, path_at}
use Rattle.directory.proofs.flattened.FlattenedDirectory.part_of_row.Goals as goal

pub returns-then-part-parts : goal.returns-then-part-parts
returns-then-part-parts c =
    let d = c.args.self.now in
    sym (path_past d.sheet.now d.parents c.args.row.parts c.args.row.element c.args.part c.if-part-parts.true)

pub climb-at-requires : goal.climb-at-requires
climb-at-requires c =
    let d = c.args.self.now in
    record { climbs = d.climbs; inside = c.requires; long = omega (arith, few_elements d.sheet.now, d.wide) }

pub returns : goal.returns
returns c =
    let d = c.args.self.now in
    let s = d.sheet.now in
    ap Some (c.name.ensures ∙ ap (λ (e : ElementRecord). name_bytes (names_in s) e.name) c.record.ensures ∙ ap (name_at s) c.climb-at.ensures)
    ∙ sym (path_at s d.parents c.args.row.parts c.args.row.element c.args.part c.if-part-parts.false)
