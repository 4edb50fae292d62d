-- A plan that is written root by root. Assumes nothing.
use Rattle.std.proofs.Common.{◌≡◌, ℕ, ◌+◌, ◌<◌, ◌≤◌, List, [], ◌++◌, length, take, drop, Some, None, Option, sym, refl, ap, ◌∙◌, append_assoc, append-nil, arith}
use Rattle.std.proofs.lemmas.List.{at_drop_more, at_drop_all}
use Rattle.rules.specs.Keeping.{Keep}
use Rattle.rules.specs.Leaves.{Leaf, roots, NeverFalls}
use Rattle.rules.specs.ReadPlan.{Reading, leaves_on, read_leaves, read_keep, leaves_from}
use Rattle.rules.specs.Trees.{Tree, preorder, size}
use Rattle.format.specs.declared.records.TypeRecord.{TypeRecord}
use Rattle.sheet.specs.declared.sheet.Sheet.{Sheet}
use Rattle.sheet.specs.Seen.{names_in, roots_in}
use Rattle.sheet.specs.SheetTrees.{type_of, type_tree, root_trees, file_from}
use Rattle.sheet.specs.SheetExpressions.{type_at_place}
use Rattle.sheet.specs.KeptTrees.{kept_tree}
use Rattle.planner.specs.RootPlans.{field_records, all_records}
use Rattle.planner.specs.ReadPlans.{kept_root, kept_trees, leaves_of_reading, read_fields}
use Rattle.planner.specs.Segments.{segment, Run}
use Rattle.planner.proofs.Copied.{tree_count, blank_tree, place_of, tree_at_lem, rest_records, rest_length}
use Rattle.planner.proofs.Runs.{At, at_start, at_next, own_leaves}

-- the records that are kept of a root's field, and how many fields that is
abbrev pub kept_records : Option Keep → Tree TypeRecord → List TypeRecord
kept_records None t = []
kept_records (Some k) t = preorder (kept_tree k t)

abbrev pub one_field : Option Keep → ℕ
one_field None = 0
one_field (Some k) = 1

module _ (s : Sheet) (ls : List Leaf) (reading : ℕ → Reading) where
  abbrev pub rest_leaves : ℕ → List ℕ
  rest_leaves r = leaves_from reading ls r (file_from (names_in s) (drop r (root_trees s)))

  abbrev pub rest_fields : ℕ → List (Tree TypeRecord)
  rest_fields r = kept_trees (names_in s) reading r (drop r (root_trees s))

  abbrev place : ℕ → ℕ
  place r = place_of s r

  module _ (r : ℕ) (h : r < length (roots_in s)) where
    leaves_step : rest_leaves r ≡ read_leaves (reading r) (type_at_place s (place r)) (leaves_on r 0 ls) ++ rest_leaves (r + 1)
    leaves_step =
        at_drop_more (λ w. leaves_from reading ls r (file_from (names_in s) w)) (root_trees s) r blank_tree (omega (arith, tree_count s))
        ∙ ap (λ t. read_leaves (reading r) (type_of (names_in s) t) (leaves_on r 0 ls) ++ rest_leaves (r + 1)) (tree_at_lem s r h)

    abbrev keep : Option Keep
    keep = read_keep (reading r) (type_at_place s (place r))

    fields_step : rest_fields r ≡ kept_root keep (type_tree s (place r)) (rest_fields (r + 1))
    fields_step =
        at_drop_more (kept_trees (names_in s) reading r) (root_trees s) r blank_tree (omega (arith, tree_count s))
        ∙ ap (λ t. kept_root (read_keep (reading r) (type_of (names_in s) t)) t (rest_fields (r + 1))) (tree_at_lem s r h)

    kept_split : (o : Option Keep) (t : Tree TypeRecord) (ts : List (Tree TypeRecord)) → (field_records (kept_root o t ts) ≡ kept_records o t ++ field_records ts) × (length (kept_root o t ts) ≡ one_field o + length ts)
    kept_split None t ts = (refl, omega arith)
    kept_split (Some k) t ts = (refl, omega arith)

  pub record Planning (r first n fields types : ℕ) (mask : List ℕ) (schema : List TypeRecord) : Type 0 where
    pub at : At ls r first
    pub leaves : take n mask ++ rest_leaves r ≡ leaves_of_reading s ls reading
    pub few : n ≤ first
    pub kept : take types schema ++ field_records (rest_fields r) ≡ field_records (read_fields s reading)
    pub room : types + length (rest_records s r) ≤ length schema
    pub count : fields + length (rest_fields r) ≡ length (read_fields s reading)
    pub some : fields ≤ r

  pub planning_starts : (mask : List ℕ) (schema : List TypeRecord) → length (all_records s) ≤ length schema → Planning 0 0 0 0 0 mask schema
  planning_starts mask schema h = record { at = at_start ls; leaves = refl; few = omega arith; kept = refl; room = omega arith; count = omega arith; some = omega arith }

  module _ (rising : NeverFalls (roots ls)) (r first n fields types end : ℕ) (mask : List ℕ) (schema : List TypeRecord) (h : r < length (roots_in s)) (p : Planning r first n fields types mask schema) (run : Run ls r first end) where
    -- the root's own leaves
    pub root_leaves : leaves_on r 0 ls ≡ segment ls first end
    root_leaves = own_leaves ls rising r first end p.at run

    pub room_for : types + size (type_tree s (place r)) ≤ length schema
    room_for = omega (arith, p.room, rest_length s r h)

    pub planning_on : (m fields' types' : ℕ) (mask' : List ℕ) (schema' : List TypeRecord)
        → take m mask' ≡ take n mask ++ read_leaves (reading r) (type_at_place s (place r)) (leaves_on r 0 ls) → m ≤ end
        → take types' schema' ≡ take types schema ++ kept_records (keep r h) (type_tree s (place r)) → types' ≤ types + size (type_tree s (place r)) → length schema' ≡ length schema
        → fields' ≡ fields + one_field (keep r h)
        → Planning (r + 1) end m fields' types' mask' schema'
    planning_on m fields' types' mask' schema' chosen low copied reach same counted =
        let split = kept_split r h (keep r h) (type_tree s (place r)) (rest_fields (r + 1)) in
        let step = fields_step r h in
        record {
          at = at_next ls rising r first end p.at run;
          leaves = ap (λ w. w ++ rest_leaves (r + 1)) chosen ∙ append_assoc (take n mask) (read_leaves (reading r) (type_at_place s (place r)) (leaves_on r 0 ls)) (rest_leaves (r + 1)) ∙ ap (λ w. take n mask ++ w) (sym (leaves_step r h)) ∙ p.leaves;
          few = low;
          kept = ap (λ w. w ++ field_records (rest_fields (r + 1))) copied ∙ append_assoc (take types schema) (kept_records (keep r h) (type_tree s (place r))) (field_records (rest_fields (r + 1)))
              ∙ ap (λ w. take types schema ++ w) (sym (ap field_records step ∙ split.0)) ∙ p.kept;
          room = omega (arith, p.room, rest_length s r h);
          count = omega (arith, p.count, ap length step, split.1);
          some = omega (arith, p.some, one_less (keep r h));
        }
      where
        one_less : (o : Option Keep) → one_field o ≤ 1
        one_less None = omega arith
        one_less (Some k) = omega arith

  module _ (r first n fields types : ℕ) (mask : List ℕ) (schema : List TypeRecord) (h : length (roots_in s) ≤ r) (p : Planning r first n fields types mask schema) where
    pub leaves_all : take n mask ≡ leaves_of_reading s ls reading
    leaves_all = sym (append-nil (take n mask)) ∙ ap (λ w. take n mask ++ w) (sym (at_drop_all (λ w. leaves_from reading ls r (file_from (names_in s) w)) (root_trees s) r (omega (arith, tree_count s)))) ∙ p.leaves

    over : rest_fields r ≡ []
    over = at_drop_all (kept_trees (names_in s) reading r) (root_trees s) r (omega (arith, tree_count s))

    pub fields_all : take types schema ≡ field_records (read_fields s reading)
    fields_all = sym (append-nil (take types schema)) ∙ ap (λ w. take types schema ++ field_records w) (sym over) ∙ p.kept

    pub count_all : fields ≡ length (read_fields s reading)
    count_all = omega (arith, p.count, ap length over)
