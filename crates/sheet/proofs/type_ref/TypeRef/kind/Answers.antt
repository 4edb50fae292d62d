use Rattle.std.proofs.Common.{sym, ap, ◌∙◌}
use Rattle.std.specs.Result.{result_ok}
use Rattle.format.specs.declared.records.TypeRecord.{TypeRecord}
use Rattle.format.specs.Kinds.{type_kind_of}
use Rattle.format.proofs.Known.{known}
use Rattle.sheet.proofs.Kinded.{type_is_kinded}
use Rattle.sheet.proofs.type_ref.TypeRef.kind.Goals as goal

pub unreachable-requires : goal.unreachable-requires
unreachable-requires c = type_is_kinded c.args.self.sheet.now c.args.self.place c.args.self.there (sym (ap result_ok c.in_default.is) ∙ ap result_ok c.try_from.ensures ∙ known _ _ ∙ ap (λ (r : TypeRecord). type_kind_of r.kind) c.record.ensures)
