use Rattle.std.proofs.Common.{arith}
use Rattle.sheet.proofs.NodeReaders.{few_nodes}
use Rattle.checker.specs.Settings.{sheet_of}
use Rattle.checker.proofs.state.PushdownChecker.check_get_field.Goals as goal

pub overflow_add-place : goal.overflow_add-place
overflow_add-place c = omega (arith, c.requires.there, few_nodes (sheet_of c.args.self.now))
