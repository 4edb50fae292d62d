-- Types of a sheet, counted and copied to a buffer. Assumes nothing.
use Rattle.std.proofs.Common.{◌≡◌, ℕ, zero, suc, ◌+◌, ◌*◌, ◌<◌, ◌≤◌, Bool, true, false, cond, List, [], ◌∷◌, ◌++◌, length, get_or, take, drop, sym, refl, ap, ◌∙◌, append_assoc, append-nil, arith, length-append}
use lib.ListN.{length-map}
use Rattle.std.proofs.lemmas.List.{at_drop_more, at_drop_all, get_or-map}
use Rattle.std.proofs.lemmas.List.Sums.{sum_by-cons}
use Rattle.std.specs.List.{range_with_len, sum_by}
use Rattle.rules.specs.RootPlan.{is_listed, fields_of_listed}
use Rattle.rules.specs.Trees.{Tree, node, none, preorder, size}
use Rattle.rules.proofs.Forests.{length-preorder}
use Rattle.format.specs.declared.records.RootRecord.{RootRecord}
use Rattle.format.specs.declared.records.TypeRecord.{TypeRecord}
use Rattle.format.specs.Records.{no_root, no_type}
use Rattle.sheet.specs.declared.sheet.Sheet.{Sheet}
use Rattle.sheet.specs.Seen.{roots_in}
use Rattle.sheet.specs.SheetTrees.{type_tree, root_trees}
use Rattle.sheet.proofs.Sheets.{few_types, few_roots, root_place, type_size, type_within}
use Rattle.planner.specs.RootPlans.{listed_fields, field_records, all_records, span_of}

abbrev pub blank_tree : Tree TypeRecord
blank_tree = node no_type none

module _ (s : Sheet) where
  abbrev pub place_of : ℕ → ℕ
  place_of r = (get_or (roots_in s) r no_root).type_place

  pub tree_count : length (root_trees s) ≡ length (roots_in s)
  tree_count = length-map (roots_in s) (λ (r : RootRecord). type_tree s r.type_place)

  pub tree_at_lem : (r : ℕ) → r < length (roots_in s) → get_or (root_trees s) r blank_tree ≡ type_tree s (place_of r)
  tree_at_lem r h = get_or-map (λ (x : RootRecord). type_tree s x.type_place) (roots_in s) r no_root blank_tree h

  -- what the roots from r on have
  abbrev pub rest_records : ℕ → List TypeRecord
  rest_records r = field_records (drop r (root_trees s))

  rest_step : (r : ℕ) → r < length (roots_in s) → rest_records r ≡ preorder (type_tree s (place_of r)) ++ rest_records (r + 1)
  rest_step r h = at_drop_more field_records (root_trees s) r blank_tree (omega (arith, tree_count)) ∙ ap (λ t. preorder t ++ rest_records (r + 1)) (tree_at_lem r h)

  pub rest_length : (r : ℕ) → r < length (roots_in s) → length (rest_records r) ≡ size (type_tree s (place_of r)) + length (rest_records (r + 1))
  rest_length r h = ap length (rest_step r h) ∙ length-append (preorder (type_tree s (place_of r))) (rest_records (r + 1)) ∙ ap (λ n. n + length (rest_records (r + 1))) (length-preorder (type_tree s (place_of r)))

  rest_none : (r : ℕ) → length (roots_in s) ≤ r → rest_records r ≡ []
  rest_none r h = at_drop_all field_records (root_trees s) r (omega (arith, tree_count))

  -- how many records the roots from r on have
  span_is : (r : ℕ) → r < length (roots_in s) → span_of s r ≡ size (type_tree s (place_of r))
  span_is r h = type_size s (place_of r) (root_place s r h)

  spans : (r n : ℕ) → r + n ≡ length (roots_in s) → sum_by (span_of s) (range_with_len r n) ≡ length (rest_records r)
  spans r zero e = sym (ap length (rest_none r (omega arith)))
  spans r (suc n) e =
      sum_by-cons (span_of s) r (range_with_len (r + 1) n)
      ∙ ap (λ m. span_of s r + m) (spans (r + 1) n (omega arith))
      ∙ omega (arith, span_is r (omega arith), rest_length r (omega arith))

  pub spans_all : (n : ℕ) → n ≡ length (roots_in s) → sum_by (span_of s) (range_with_len 0 n) ≡ length (all_records s)
  spans_all n e = spans 0 n (omega arith)

  spans_low : (r n : ℕ) → r + n ≡ length (roots_in s) → length (rest_records r) ≤ 2048 * n
  spans_low r zero e = omega (arith, ap length (rest_none r (omega arith)))
  spans_low r (suc n) e =
      let p = root_place s r (omega arith) in
      omega (arith, rest_length r (omega arith), spans_low (r + 1) n (omega arith), type_within s (place_of r) p, few_types s)

  pub spans_few : length (all_records s) ≤ 524288
  spans_few = omega (arith, spans_low 0 (length (roots_in s)) (omega arith), few_roots s)

  -- the fields of the listed roots
  module _ (listed : List ℕ) where
    abbrev from : ℕ → List (Tree TypeRecord)
    from r = fields_of_listed listed r (drop r (root_trees s))

    pub record Fielded (r count types : ℕ) (fields : List TypeRecord) : Type 0 where
      pub written : take types fields ++ field_records (from r) ≡ field_records (listed_fields s listed)
      pub counted : count + length (from r) ≡ length (listed_fields s listed)
      pub room : types + length (rest_records r) ≤ length fields
      pub few : count ≤ r

    pub none_fielded : (fields : List TypeRecord) → length (all_records s) ≤ length fields → Fielded 0 0 0 fields
    none_fielded fields h = record { written = refl; counted = omega arith; room = omega arith; few = omega arith }

    module _ (r count types : ℕ) (fields : List TypeRecord) (h : r < length (roots_in s)) (i : Fielded r count types fields) where
      split : (b : Bool) → b ≡ is_listed listed r → from r ≡ cond b (type_tree s (place_of r) ∷ from (r + 1)) (from (r + 1))
      split b t =
          let e : from r ≡ cond (is_listed listed r) (get_or (root_trees s) r blank_tree ∷ from (r + 1)) (from (r + 1)) = at_drop_more (fields_of_listed listed r) (root_trees s) r blank_tree (omega (arith, tree_count)) in
          e ∙ (λ k. cond (sym t k) (tree_at_lem r h k ∷ from (r + 1)) (from (r + 1)))

      pub room_here : types + size (type_tree s (place_of r)) ≤ length fields
      room_here = omega (arith, i.room, rest_length r h)

      pub one_fielded : (after : List TypeRecord) (end : ℕ) → true ≡ is_listed listed r → take end after ≡ take types fields ++ preorder (type_tree s (place_of r)) → end ≡ types + size (type_tree s (place_of r)) → length after ≡ length fields → Fielded (r + 1) (count + 1) end after
      one_fielded after end t copied reach same =
          let e = split true t in
          record {
            written = ap (λ w. w ++ field_records (from (r + 1))) copied ∙ append_assoc (take types fields) (preorder (type_tree s (place_of r))) (field_records (from (r + 1)))
                ∙ ap (λ w. take types fields ++ w) (sym (ap field_records e)) ∙ i.written;
            counted = omega (arith, i.counted, ap length e);
            room = omega (arith, i.room, rest_length r h);
            few = omega (arith, i.few);
          }

      pub none_more : false ≡ is_listed listed r → Fielded (r + 1) count types fields
      none_more t =
          let e = split false t in
          record {
            written = ap (λ w. take types fields ++ field_records w) (sym e) ∙ i.written;
            counted = omega (arith, i.counted, ap length e);
            room = omega (arith, i.room, rest_length r h);
            few = omega (arith, i.few);
          }

    module _ (r count types : ℕ) (fields : List TypeRecord) (h : length (roots_in s) ≤ r) (i : Fielded r count types fields) where
      over : from r ≡ []
      over = at_drop_all (fields_of_listed listed r) (root_trees s) r (omega (arith, tree_count))

      pub all_written : take types fields ≡ field_records (listed_fields s listed)
      all_written = sym (append-nil (take types fields)) ∙ ap (λ w. take types fields ++ field_records w) (sym over) ∙ i.written

      pub all_counted : count ≡ length (listed_fields s listed)
      all_counted = omega (arith, i.counted, ap length over)
