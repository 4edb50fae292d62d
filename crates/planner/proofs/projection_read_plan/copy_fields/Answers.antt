use Rattle.std.proofs.Common.{◌≡◌, ℕ, ◌+◌, ◌<◌, ◌≤◌, List, length, sym, ap, ◌∙◌, subst, arith, rules}
use Rattle.std.proofs.lemmas.List.{length-take-le}
use Rattle.rules.specs.Trees.{preorder, size}
use Rattle.format.specs.declared.records.TypeRecord.{TypeRecord}
use Rattle.format.specs.Records.{no_type}
use Rattle.sheet.specs.Seen.{roots_in}
use Rattle.sheet.specs.SheetTrees.{type_tree}
use Rattle.planner.proofs.Padding.{length-behind, length-put, written_on, pads}
use Rattle.planner.proofs.Copied.{Fielded, place_of, none_fielded, room_here, one_fielded, none_more, all_written, all_counted}
use Rattle.planner.proofs.projection_read_plan.copy_fields.Goals as goal
use Rattle.planner.proofs.projection_read_plan.copy_fields.Goals.{then-is_listed, else-is_listed}

pub loop-root-init : goal.loop-root-init
loop-root-init c = none_fielded c.args.sheet.now c.args.roots.now c.args.buffer.now c.requires

pub copy_into-types-requires : goal.copy_into-types-requires
copy_into-types-requires c =
    let s = c.args.sheet.now in
    let l = c.loop-root in
    let e : size (type_tree c.of_root.result.sheet.now c.of_root.result.place) ≡ size (type_tree s (place_of s l.root)) = λ k. size (type_tree (c.of_root.ensures.sheet k) (c.of_root.ensures.place k)) in
    omega (arith, length-behind l.types l.buffer, room_here s c.args.roots.now l.root l.fields l.types l.buffer (omega arith) l.invariant)

pub overflow_add-types : goal.overflow_add-types
overflow_add-types c =
    let s = c.args.sheet.now in
    let l = c.loop-root in
    let e : size (type_tree c.of_root.result.sheet.now c.of_root.result.place) ≡ size (type_tree s (place_of s l.root)) = λ k. size (type_tree (c.of_root.ensures.sheet k) (c.of_root.ensures.place k)) in
    omega (arith, c.copy_into-types.ensures.count, room_here s c.args.roots.now l.root l.fields l.types l.buffer (omega arith) l.invariant)

pub loop-root-preserved : goal.loop-root-preserved
loop-root-preserved c =
    let s = c.args.sheet.now in
    let roots = c.args.roots.now in
    let l = c.loop-root in
    let h : l.root < length (roots_in s) = omega arith in
    elim c.if-is_listed.branch [
      | then-is_listed w ↦
          let e : type_tree w.of_root.result.sheet.now w.of_root.result.place ≡ type_tree s (place_of s l.root) = λ k. type_tree (w.of_root.ensures.sheet k) (w.of_root.ensures.place k) in
          let on = one_fielded s roots l.root l.fields l.types l.buffer h l.invariant _ (l.types + w.copy_into-types.result) w.if-is_listed.ensures
          (written_on l.types w.copy_into-types.result l.buffer w.copy_into-types.new.fields _ w.copy_into-types.auto.fields (omega (arith, w.copy_into-types.ensures.count, ap size e, room_here s roots l.root l.fields l.types l.buffer h l.invariant)) (w.copy_into-types.ensures.copied ∙ ap preorder e)) (ap (λ n. l.types + n) (w.copy_into-types.ensures.count ∙ ap size e)) (length-put l.types l.buffer w.copy_into-types.new.fields w.copy_into-types.auto.fields) in
          subst (λ (x : ℕ × (ℕ × List TypeRecord)). Fielded s roots (l.root + 1) x.0 x.1.0 x.1.1) (λ k. (sym w.fields-is k, (sym w.types-is k, sym w.buffer-is k))) on
      | else-is_listed w ↦
          let on = none_more s roots l.root l.fields l.types l.buffer h l.invariant w.if-is_listed.ensures in
          subst (λ (x : ℕ × (ℕ × List TypeRecord)). Fielded s roots (l.root + 1) x.0 x.1.0 x.1.1) (λ k. (sym w.fields-is k, (sym w.types-is k, sym w.buffer-is k))) on
    ]

pub returns : goal.returns
returns c =
    let s = c.args.sheet.now in
    let roots = c.args.roots.now in
    let l = c.loop-root in
    let low : l.types ≤ length l.buffer = omega (arith, l.invariant.room) in
    let end : length (roots_in s) ≤ l.root = omega arith in
    let all = all_written s roots l.root l.fields l.types l.buffer end l.invariant in
    record {
      copied = pads no_type l.buffer c.fill.new.self _ l.types (length c.args.buffer.now) low (omega arith) all (c.fill.ensures.after (λ y h. search rules));
      fields = all_counted s roots l.root l.fields l.types l.buffer end l.invariant;
      types = sym (length-take-le l.types l.buffer low) ∙ ap length all;
    }
