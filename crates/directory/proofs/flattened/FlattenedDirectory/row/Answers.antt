use Rattle.std.proofs.Common.{ap, ◌∙◌}
use Rattle.std.specs.List.{slice_get}
use Rattle.directory.proofs.Answered.{got, row_is, row_stands}
use Rattle.directory.proofs.flattened.FlattenedDirectory.row.Goals as goal

pub returns : goal.returns
returns c =
    let e = c.copied.ensures ∙ got c.deref.result.now c.args.leaf c.get.result c.get.ensures.lookup ∙ ap (λ xs. slice_get xs c.args.leaf) c.deref.ensures.0 in
    record { leaf = row_is c.args.self.now c.args.leaf c.copied.result e; inside = row_stands c.args.self.now c.args.leaf c.copied.result e }
