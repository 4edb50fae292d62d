use Rattle.std.proofs.Common.{◌≡◌, ◌-◌, ap, ◌∙◌, arith, rules}
use Rattle.rules.specs.Trees.{size}
use Rattle.sheet.specs.SheetTrees.{type_tree}
use Rattle.planner.specs.ReadPlans.{uses_reading}
use Rattle.planner.specs.Readings.{chosen_by, kept_by, paths_on}
use Rattle.planner.proofs.Copied.{place_of}
use Rattle.planner.proofs.Padding.{length-behind}
use Rattle.planner.proofs.Planning.{planning_starts}
use Rattle.planner.proofs.Bridging.{told_there, told_fits, told_short, room_at_root, root_planned, all_planned}
use Rattle.planner.proofs.assemble.build_read_plan.Goals as goal

pub loop-root-init : goal.loop-root-init
loop-root-init g c =
    let s = c.args.sheet.now in
    let ls = g.D.LeafDirectory.leaves c.args.directory.now in
    planning_starts s ls (uses_reading s ls c.args.uses.now) c.args.leaves.now c.args.fields.now c.requires.fields

pub choose_root-requires-clause-clip : goal.choose_root-requires-clause-clip
choose_root-requires-clause-clip g c =
    told_fits c.args.uses.now c.loop-root.root c.read_root-reading.result c.read_root-reading.new.table c.of_root-here.result.sheet.now c.of_root-here.result.place c.len.result c.read_root-reading.ensures
    c.of_root-own.result.first c.of_root-own.result.end c.len.ensures

pub keep_root-requires-clause-room : goal.keep_root-requires-clause-room
keep_root-requires-clause-room g c =
    let s = c.args.sheet.now in
    let ls = g.D.LeafDirectory.leaves c.args.directory.now in
    let l = c.loop-root in
    let here = c.of_root-here in
    let e : size (type_tree here.result.sheet.now here.result.place) ≡ size (type_tree s (place_of s l.root)) = λ k. size (type_tree (here.ensures.sheet k) (here.ensures.place k)) in
    omega (arith, length-behind l.plan.types l.fields, room_at_root s ls c.args.uses.now l.root l.first l.plan.leaves l.plan.fields l.plan.types l.leaves l.fields (omega arith) l.invariant)

pub keep_root-requires-clause-clip : goal.keep_root-requires-clause-clip
keep_root-requires-clause-clip g c =
    told_short c.args.uses.now c.loop-root.root c.read_root-reading.result c.read_root-reading.new.table c.of_root-here.result.sheet.now c.of_root-here.result.place c.len.result c.read_root-reading.ensures

pub overflow_add-plan-in-loop-root : goal.overflow_add-plan-in-loop-root
overflow_add-plan-in-loop-root g c =
    let s = c.args.sheet.now in
    let ls = g.D.LeafDirectory.leaves c.args.directory.now in
    let l = c.loop-root in
    let here = c.of_root-here in
    let e : size (type_tree here.result.sheet.now here.result.place) ≡ size (type_tree s (place_of s l.root)) = λ k. size (type_tree (here.ensures.sheet k) (here.ensures.place k)) in
    omega (arith, c.keep_root.ensures.count, room_at_root s ls c.args.uses.now l.root l.first l.plan.leaves l.plan.fields l.plan.types l.leaves l.fields (omega arith) l.invariant)

pub loop-root-preserved : goal.loop-root-preserved
loop-root-preserved g c =
    let s = c.args.sheet.now in
    let ls = g.D.LeafDirectory.leaves c.args.directory.now in
    let u = c.args.uses.now in
    let l = c.loop-root in
    let here = c.of_root-here in
    let own = c.of_root-own in
    let told = c.read_root-reading in
    let e : size (type_tree here.result.sheet.now here.result.place) ≡ size (type_tree s (place_of s l.root)) = λ k. size (type_tree (here.ensures.sheet k) (here.ensures.place k)) in
    root_planned s ls u l.root l.first l.plan.leaves l.plan.fields l.plan.types l.leaves l.fields (omega arith) l.invariant
    (g.D.LeafDirectory.rising c.args.directory.now) own.result.end own.ensures.run told.result told.new.table
    (told_there u l.root told.result told.new.table here.result.sheet.now s here.result.place (place_of s l.root) c.len.result (own.result.end - l.first) here.ensures.sheet here.ensures.place (c.len.ensures ∙ ap (λ f. own.result.end - f) own.ensures.first) told.ensures)
    c.choose_root.result c.field_count.result c.keep_root.result c.choose_root.new.mask c.keep_root.new.fields c.choose_root.auto.mask c.keep_root.auto.fields (omega (arith, c.requires.leaves))
    (c.choose_root.ensures.chosen ∙ ap (λ f. chosen_by ls (paths_on s u l.root) told.result told.new.table f own.result.end) own.ensures.first) (omega (arith, c.choose_root.ensures.count, own.ensures.first))
    (c.keep_root.ensures.kept ∙ (λ k. kept_by (here.ensures.sheet k) (here.ensures.place k) (paths_on (here.ensures.sheet k) u l.root) told.result told.new.table)) (omega (arith, c.keep_root.ensures.count))
    c.field_count.ensures

pub returns : goal.returns
returns g c =
    let s = c.args.sheet.now in
    let ls = g.D.LeafDirectory.leaves c.args.directory.now in
    let l = c.loop-root in
    all_planned s ls (uses_reading s ls c.args.uses.now) l.root l.first l.plan.leaves l.plan.fields l.plan.types l.leaves l.fields (omega arith) l.invariant
    c.args.leaves.now c.fill.new.self c.args.fields.now c.fill-2.new.self (omega arith) (omega arith) c.requires.leaves (c.fill.ensures.after (λ y h. search rules)) (c.fill-2.ensures.after (λ y h. search rules))
