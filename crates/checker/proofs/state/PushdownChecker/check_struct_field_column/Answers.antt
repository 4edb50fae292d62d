use Rattle.std.proofs.Common.{sym, refl, arith}
use Rattle.sheet.proofs.NodeReaders.{few_nodes}
use Rattle.checker.specs.Found.{found}
use Rattle.checker.specs.Settings.{sheet_of}
use Rattle.checker.proofs.Noting.{accesses_one}
use Rattle.checker.proofs.Rooted.{named_few}
use Rattle.checker.proofs.state.PushdownChecker.check_struct_field_column.Goals as goal

pub overflow_cast-idx : goal.overflow_cast-idx
overflow_cast-idx c = omega (arith, named_few (sheet_of c.args.self.now) c.args.column_name.now c.in-Some.idx (sym c.in-Some.ensures))

pub overflow_cast-first_part : goal.overflow_cast-first_part
overflow_cast-first_part c = omega (arith, c.requires.within, few_nodes (sheet_of c.args.self.now))

pub overflow_cast-parts : goal.overflow_cast-parts
overflow_cast-parts c = omega (arith, c.requires.within, few_nodes (sheet_of c.args.self.now))

pub returns-clause-notes : goal.returns-clause-notes
returns-clause-notes c =
    let k = c.args.self.now in
    accesses_one (sheet_of k) k.allow_list_columns k.collect_cast_accesses (found k) c.args.column_name.now c.in-Some.idx c.in-Some.ensures k.struct_field_accesses.items _ _ c.push.ensures.items refl c.requires.within refl
