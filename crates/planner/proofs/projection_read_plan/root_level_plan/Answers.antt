use Rattle.std.proofs.Common.{arith}
use Rattle.planner.proofs.Planned.{planned_is}
use Rattle.planner.proofs.projection_read_plan.root_level_plan.Goals as goal

pub returns : goal.returns
returns g c =
    planned_is c.args.sheet.now (g.D.LeafDirectory.leaves c.args.directory.now) c.args.roots.now c.args.leaves.now c.args.fields.now
    _ _ _ _ _ c.in_default.ensures (omega arith) (omega arith)
    c.choose_leaves-chosen.ensures.count c.copy_fields-schema.ensures.fields c.copy_fields-schema.ensures.types c.choose_leaves-chosen.ensures.chosen c.copy_fields-schema.ensures.copied
