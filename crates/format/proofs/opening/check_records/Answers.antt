use Rattle.std.proofs.Common.{length, ap, ◌∙◌, arith, lit<}
use Rattle.format.specs.Records.{element_from}
use Rattle.format.proofs.Tables.{length-table}
use Rattle.format.proofs.opening.check_records.Goals as goal

pub first_bad_element-requires : goal.first_bad_element-requires
first_bad_element-requires c =
    let s = c.args.layout.elements in
    omega (arith, ap length c.of-elements.ensures ∙ length-table 6 element_from c.args.bytes.now s.start s.count, c.requires.few 5 (lit< tt))
