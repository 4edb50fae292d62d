use Rattle.std.proofs.Common.{sym}
use Rattle.checker.specs.Settings.{sheet_of}
use Rattle.checker.proofs.Rooted.{named_low}
use Rattle.checker.proofs.state.PushdownChecker.is_map_column.Goals as goal

pub root_type-requires : goal.root_type-requires
root_type-requires c = named_low (sheet_of c.args.self.now) c.args.column_name.now c.in-Some.idx (sym c.in-Some.ensures)
