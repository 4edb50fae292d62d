use Rattle.std.proofs.Common.{sym, ap, ◌∙◌, arith}
use Rattle.sheet.specs.SheetTrees.{type_tree}
use Rattle.sheet.proofs.KeptTrees.{kept_small}
use Rattle.access.specs.Accesses.{pruned_at}
use Rattle.planner.specs.Readings.{paths_on, kept_by}
use Rattle.planner.proofs.assemble.keep_root.Goals as goal

pub returns-in-Along : goal.returns-in-Along
returns-in-Along c =
    let s = c.args.here.sheet.now in
    let p = c.args.here.place in
    record {
      kept = c.prune_struct_type.ensures.copied ∙ ap (λ r. kept_by s p (paths_on s c.args.used.uses c.args.used.root) r c.args.table.now) (sym c.in-Along.is);
      count = omega (arith, c.prune_struct_type.ensures.count, kept_small (pruned_at s c.args.used.uses.accesses.now c.args.used.root p) (type_tree s p));
    }
