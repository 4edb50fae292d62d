use Rattle.std.proofs.Common.{sym}
use Rattle.checker.specs.Settings.{sheet_of}
use Rattle.checker.proofs.Rooted.{named_low, named_few}
use Rattle.checker.proofs.state.PushdownChecker.check_single_column.Goals as goal

pub insert-requires : goal.insert-requires
insert-requires c = named_few (sheet_of c.args.self.now) c.args.column_name.now c.in-Some.idx (sym c.in-Some.ensures)

pub root_type-requires : goal.root_type-requires
root_type-requires c = named_low (sheet_of c.args.self.now) c.args.column_name.now c.in-Some.idx (sym c.in-Some.ensures)
