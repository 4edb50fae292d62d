use Rattle.std.proofs.Common.{ap, arith}
use Rattle.format.specs.declared.records.RootRecord.{RootRecord}
use Rattle.sheet.proofs.Sheets.{root_place}
use Rattle.sheet.proofs.type_ref.TypeRef.of_root.Goals as goal

pub at-requires : goal.at-requires
at-requires c = omega (arith, root_place c.args.sheet.now c.args.root c.requires, ap (λ (r : RootRecord). r.type_place) c.record.ensures)
