use Rattle.std.proofs.Common.{◌≡◌, ℕ, ◌+◌, ◌-◌, ◌<◌, ◌≤◌, true, false, set, Some, None, is_err, sym, refl, ap, ◌∙◌, arith}
use Rattle.std.proofs.lemmas.Result.{err_from_is_err_and, IfOk-from_err}
use Rattle.sheet.proofs.Sheets.{few_types}
use Rattle.sheet.specs.SheetTrees.{type_tree}
use Rattle.sheet.specs.SheetExpressions.{type_at_place}
use Rattle.sheet.proofs.Siblings.{sibling}
use Rattle.sheet.proofs.Readers.{type_span, name_at}
use Rattle.nested.specs.declared.tables.ClipTable.{ClipTable}
use Rattle.rules.specs.Keeping.{all}
use Rattle.rules.specs.Trees.{size}
use Rattle.rules.specs.Types.{leaf_count_of, type_named}
use Rattle.nested.specs.Found.{fields_under}
use Rattle.nested.specs.Clips.{clip_at}
use Rattle.nested.specs.ClipSteps.{Added, head_of}
use Rattle.nested.proofs.Finding.{found_there}
use Rattle.nested.proofs.Placed.{placed, pair_placed}
use Rattle.nested.proofs.PairViews.{AreStructs, AreLists, are}
use Rattle.nested.proofs.ClipTurns.{kept, written, with_types}
use Rattle.nested.proofs.ClipWalks.{Tells, Adds, Turn, turned, ends_sound, walk_ends, item_leaves, item_size, item_void, item_ends, others_sound, others_added}
use Rattle.nested.proofs.type_pair.TypePair.+clip.Goals as goal
use Rattle.nested.proofs.type_pair.TypePair.+clip.Goals.{In-Structs, In-Lists, In-Some, In-Some-find_field, After-count_leaves}

-- the two Structs, the two lists
structs : (t : ℕ) (c : In-Structs t) → AreStructs c.args.self.sheet.now c.args.self.place c.args.self.goal
structs t c = are c.args.self.sheet.now c.args.self.place c.args.self.goal c.args.self.here c.args.self.there c.in-Structs.ensures

lists : (t : ℕ) (c : In-Lists t) → AreLists c.args.self.sheet.now c.args.self.place c.args.self.goal
lists t c = are c.args.self.sheet.now c.args.self.place c.args.self.goal c.args.self.here c.args.self.there c.in-Lists.ensures

pub overflow_add-self : goal.overflow_add-self
overflow_add-self t c = omega (arith, c.args.self.here, few_types c.args.self.sheet.now)

pub overflow_add-self-in-Lists : goal.overflow_add-self-in-Lists
overflow_add-self-in-Lists t c = omega (arith, c.args.self.there, few_types c.args.self.sheet.now)

pub of-requires : goal.of-requires
of-requires t c = let both = lists t (goal.at.of-requires t c).In-Lists in record { here = both.item; there = both.goal }

pub clip-requires : goal.clip-requires
clip-requires t c =
    let s = c.args.self.sheet.now in
    let of = c.of.ensures in
    let both = lists t (goal.at.clip-requires t c).In-Lists in
    let leaves = item_leaves s c.args.self.place c.args.self.goal c.args.self.here c.record-here.result c.record-here.ensures both in
    let long = item_size s c.args.self.place c.args.self.goal c.args.self.here c.record-here.result c.record-here.ensures both in (
      placed (λ s q. type_span s q < t) of.sheet of.place (omega (arith, c.decreases, both.span)),
      (
        placed (λ s q. kept c.args.table.now + leaf_count_of (type_at_place s q) ≤ 2048) of.sheet of.place (omega (arith, leaves, c.requires.room)),
        (
          placed (λ s q. c.args.leaf.now + leaf_count_of (type_at_place s q) ≤ 2048) of.sheet of.place (omega (arith, leaves, c.requires.low)),
          placed (λ s q. written (with_types c.args.table.now c.push.new.self) + size (type_tree s q) ≤ 2048) of.sheet of.place (omega (arith, long, c.requires.space, c.push.ensures.len)),
        ),
      ),
    )

pub returns-in_err-clip-in-Lists : goal.returns-in_err-clip-in-Lists
returns-in_err-clip-in-Lists t c =
    let s = c.args.self.sheet.now in
    let of = c.of.ensures in
    let both = lists t (goal.at.returns-in_err-clip-in-Lists t c).In-Lists in
    let e = ap is_err (err_from_is_err_and c.from_residual.result c.from_residual.ensures.1).1 in
    let inner : Tells true s (c.args.self.place + 1) (c.args.self.goal + 1) = pair_placed (Tells true) (sym of.sheet) (sym of.place) (sym of.goal) c.in_err-clip-in-Lists.ensures.refuses in
    record {
      refuses = e ∙ inner ∙ item_void s c.args.self.place c.args.self.goal c.args.self.here c.record-here.result c.record-here.ensures both;
      adds = IfOk-from_err c.from_residual.result (λ _. Added (clip_at s c.args.self.place c.args.self.goal) (type_at_place s c.args.self.place) (type_tree s c.args.self.place) c.args.leaf.now c.args.table.now c.clip.new.leaf c.clip.new.table) e;
    }

-- the turn at a child
turn : (t : ℕ) (c : In-Some t) → Turn c.args.self.sheet.now c.args.self.place c.args.self.goal c.args.leaf.now (with_types c.args.table.now c.push-in-Structs.new.self) c.loop-child.child-iterator c.loop-child.leaf c.loop-child.table c.loop-child.children c.in-Some.child c.next.new.self
turn t c = turned c.args.self.here c.args.self.there (are c.args.self.sheet.now c.args.self.place c.args.self.goal c.args.self.here c.args.self.there c.in-Structs.ensures) c.loop-child.invariant c.in-Some.ensures.steps

-- how many leaves it has
leaves : (t : ℕ) (c : After-count_leaves t) → c.count_leaves.result ≡ leaf_count_of (type_at_place c.args.self.sheet.now c.in-Some.child.place)
leaves t c = c.count_leaves.ensures ∙ ap (λ s. leaf_count_of (type_at_place s c.in-Some.child.place)) (sibling c.loop-child.invariant.at c.in-Some.ensures.steps).sheet

-- the field that was found
found : (t : ℕ) (c : In-Some-find_field t) → Some (type_at_place c.args.self.sheet.now c.in-Some-find_field.wanted) ≡ type_named (name_at c.args.self.sheet.now c.in-Some.child.place) (fields_under c.args.self.sheet.now c.args.self.goal)
found t c = found_there (Some c.in-Some-find_field.wanted) c.second.ensures.sheet c.second.ensures.place (c.name.ensures ∙ ap (λ s. name_at s c.in-Some.child.place) (sibling c.loop-child.invariant.at c.in-Some.ensures.steps).sheet) c.in-Some-find_field.ensures.found

pub overflow_add-leaf : goal.overflow_add-leaf
overflow_add-leaf t c =
    let on = goal.at.overflow_add-leaf t c in
    omega (arith, leaves t on.After-count_leaves, (turn t on.In-Some).low, c.requires.low)

pub loop-child-preserved-in-None-find_field : goal.loop-child-preserved-in-None-find_field
loop-child-preserved-in-None-find_field t c =
    let on = goal.at.loop-child-preserved-in-None-find_field t c in
    (turn t on.In-Some).past (found_there None c.second.ensures.sheet c.second.ensures.place (c.name.ensures ∙ ap (λ s. name_at s c.in-Some.child.place) (turn t on.In-Some).here.sheet) c.in-None-find_field.ensures.found) c.count_leaves.result (leaves t on.After-count_leaves)

pub clip-requires-in-Some-find_field : goal.clip-requires-in-Some-find_field
clip-requires-in-Some-find_field t c =
    let x = turn t (goal.at.clip-requires-in-Some-find_field t c).In-Some in
    let sheet = c.of-in-Some-find_field.ensures.sheet in
    let place = c.of-in-Some-find_field.ensures.place ∙ c.place.ensures in (
      placed (λ s q. type_span s q < t) sheet place (omega (arith, c.decreases, x.here.inside, x.here.behind)),
      (
        placed (λ s q. kept c.loop-child.table + leaf_count_of (type_at_place s q) ≤ 2048) sheet place x.room,
        (
          placed (λ s q. c.loop-child.leaf + leaf_count_of (type_at_place s q) ≤ 2048) sheet place (omega (arith, x.low, c.requires.low)),
          placed (λ s q. written c.loop-child.table + size (type_tree s q) ≤ 2048) sheet place x.space,
        ),
      ),
    )

pub returns-in_err-clip-in-Some-find_field : goal.returns-in_err-clip-in-Some-find_field
returns-in_err-clip-in-Some-find_field t c =
    let s = c.args.self.sheet.now in
    let on = goal.at.returns-in_err-clip-in-Some-find_field t c in
    let of = c.of-in-Some-find_field.ensures in
    let e = ap is_err (err_from_is_err_and c.from_residual-in_err-clip-in-Some-find_field.result c.from_residual-in_err-clip-in-Some-find_field.ensures.1).1 in
    let inner : Tells true s c.in-Some.child.place c.in-Some-find_field.wanted = pair_placed (Tells true) (sym of.sheet) (sym (of.place ∙ c.place.ensures)) (sym of.goal) c.in_err-clip-in-Some-find_field.ensures.refuses in
    record {
      refuses = e ∙ (turn t on.In-Some).void c.in-Some-find_field.wanted (found t on.In-Some-find_field) inner;
      adds = IfOk-from_err c.from_residual-in_err-clip-in-Some-find_field.result (λ _. Added (clip_at s c.args.self.place c.args.self.goal) (type_at_place s c.args.self.place) (type_tree s c.args.self.place) c.args.leaf.now c.args.table.now c.clip-in-Some-find_field.new.leaf c.clip-in-Some-find_field.new.table) e;
    }

pub returns-then-len-before : goal.returns-then-len-before
returns-then-len-before t c =
    let on = goal.at.returns-then-len-before t c in
    let of = c.of-in-Some-find_field.ensures in
    let inner : Adds c.loop-child.leaf c.loop-child.table c.clip-in-Some-find_field.new.leaf c.clip-in-Some-find_field.new.table c.args.self.sheet.now c.in-Some.child.place c.in-Some-find_field.wanted = pair_placed (Adds _ _ _ _) (sym of.sheet) (sym (of.place ∙ c.place.ensures)) (sym of.goal) c.in_ok-clip-in-Some-find_field.ensures.adds in
    record {
      refuses = (turn t on.In-Some).none c.in-Some-find_field.wanted (found t on.In-Some-find_field) c.clip-in-Some-find_field.new.leaf c.clip-in-Some-find_field.new.table inner (sym c.len.ensures.value ∙ c.if-len-before.true ∙ c.len-before.ensures.value);
      adds = tt;
    }

pub loop-child-preserved : goal.loop-child-preserved
loop-child-preserved t c =
    let on = goal.at.loop-child-preserved t c in
    let of = c.of-in-Some-find_field.ensures in
    let place = sym (of.place ∙ c.place.ensures) in
    let told : Tells false c.args.self.sheet.now c.in-Some.child.place c.in-Some-find_field.wanted = pair_placed (Tells false) (sym of.sheet) place (sym of.goal) c.in_ok-clip-in-Some-find_field.ensures.refuses in
    let inner : Adds c.loop-child.leaf c.loop-child.table c.clip-in-Some-find_field.new.leaf c.clip-in-Some-find_field.new.table c.args.self.sheet.now c.in-Some.child.place c.in-Some-find_field.wanted = pair_placed (Adds _ _ _ _) (sym of.sheet) place (sym of.goal) c.in_ok-clip-in-Some-find_field.ensures.adds in
    (turn t on.In-Some).kept c.in-Some-find_field.wanted (found t on.In-Some-find_field) c.clip-in-Some-find_field.new.leaf c.clip-in-Some-find_field.new.table inner told (λ e. c.if-len-before.false (c.len.ensures.value ∙ e ∙ sym c.len-before.ensures.value))

pub returns-in-Others : goal.returns-in-Others
returns-in-Others t c =
    let s = c.args.self.sheet.now in
    let both = are s c.args.self.place c.args.self.goal c.args.self.here c.args.self.there c.in-Others.ensures in
    let first = c.first.ensures in
    let did = placed (λ s q. Added all (type_at_place s q) (type_tree s q) c.args.leaf.now c.args.table.now c.keep_entire.new.leaf c.keep_entire.new.table) (sym first.sheet) (sym first.place) c.keep_entire.ensures in
    record { refuses = others_sound s c.args.self.place c.args.self.goal both; adds = others_added s c.args.self.place c.args.self.goal both _ _ _ _ did }

pub returns-in_ok-clip-in-Lists : goal.returns-in_ok-clip-in-Lists
returns-in_ok-clip-in-Lists t c =
    let s = c.args.self.sheet.now in
    let both = lists t (goal.at.returns-in_ok-clip-in-Lists t c).In-Lists in
    let of = c.of.ensures in
    let start = c.args.table.now in
    let mid : ClipTable = with_types start c.push.new.self in
    let table = c.clip.new.table in
    let told : Tells false s (c.args.self.place + 1) (c.args.self.goal + 1) = pair_placed (Tells false) (sym of.sheet) (sym of.place) (sym of.goal) c.in_ok-clip-in-Lists.ensures.refuses in
    let did : Adds c.args.leaf.now mid c.clip.new.leaf table s (c.args.self.place + 1) (c.args.self.goal + 1) = pair_placed (Adds _ _ _ _) (sym of.sheet) (sym of.place) (sym of.goal) c.in_ok-clip-in-Lists.ensures.adds in
    let head : c.set_head.new.types.items ≡ set table.types.items (written start) (head_of c.record-here.result 1 (written table - written start)) = c.set_head.ensures ∙ ap (λ n. set table.types.items n (head_of c.record-here.result 1 (written table - n))) c.len-head.ensures.value in
    record {
      refuses = told ∙ item_void s c.args.self.place c.args.self.goal c.args.self.here c.record-here.result c.record-here.ensures both;
      adds = item_ends s c.args.self.place c.args.self.goal c.args.self.here c.record-here.result c.record-here.ensures both c.args.leaf.now start mid c.clip.new.leaf table did refl c.push.ensures.items _ refl head;
    }

pub returns-in-None : goal.returns-in-None
returns-in-None t c =
    let both = structs t (goal.at.returns-in-None t c).In-Structs in
    let l = c.loop-child in
    let r = c.record-here.result in
    let start = c.args.table.now in
    let head : c.set_head-in-Structs.new.types.items ≡ set l.table.types.items (written start) (head_of r l.children (written l.table - written start)) = c.set_head-in-Structs.ensures ∙ ap (λ n. set l.table.types.items n (head_of r l.children (written l.table - n))) c.len-head.ensures.value in
    record {
      refuses = ends_sound c.args.self.here c.args.self.there both l.invariant c.in-None.ensures.steps;
      adds = walk_ends c.args.self.here c.args.self.there both l.invariant c.in-None.ensures.steps r c.record-here.ensures start refl c.push-in-Structs.ensures.items _ refl head;
    }
