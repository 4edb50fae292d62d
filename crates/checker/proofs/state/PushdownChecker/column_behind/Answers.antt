use Rattle.std.proofs.Common.{arith}
use Rattle.sheet.proofs.NodeReaders.{few_nodes}
use Rattle.checker.specs.Settings.{sheet_of}
use Rattle.checker.proofs.state.PushdownChecker.column_behind.Goals as goal

pub overflow_add-place : goal.overflow_add-place
overflow_add-place c = omega (arith, few_nodes (sheet_of c.args.self.now))
