use Rattle.std.proofs.Common.{Some, sym, ap, ◌∙◌}
use Rattle.format.specs.Records.{name_bytes}
use Rattle.sheet.specs.Seen.{names_in}
use Rattle.directory.proofs.Looking.{no_part, part_is_lem}
use Rattle.directory.proofs.listed.ListedDirectory.part_of_record.Goals as goal

pub returns-then-part-leaf : goal.returns-then-part-leaf
returns-then-part-leaf c = sym (no_part c.args.self.now.sheet.now c.args.leaf c.args.part c.requires c.if-part-leaf.true)

pub returns : goal.returns
returns c =
    let s = c.args.self.now.sheet.now in
    ap Some (c.name.ensures ∙ ap (name_bytes (names_in s)) c.record-name.ensures) ∙ sym (part_is_lem s c.args.leaf c.args.part c.requires c.if-part-leaf.false)
