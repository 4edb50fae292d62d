-- What the code tells of a root, chooses of its leaves and keeps of its field is what the plan of the uses says. Assumes
-- nothing.
use Rattle.std.proofs.Common.{◌≡◌, ℕ, zero, suc, ◌+◌, ◌-◌, ◌<◌, ◌≤◌, Bool, true, false, cond, ◌&&◌, eqb, List, [], ◌∷◌, ◌++◌, map, length, get_or, take, replicate, Some, None, sym, refl, ap, ◌∙◌, ap₂, subst, arith}
use lib.ListN.{length-map}
use Rattle.std.proofs.lemmas.List.{map-append, length-take-le}
use Rattle.std.proofs.lemmas.Bool.{eqb-true, and_parts}
use Rattle.std.specs.List.{range_with_len}
use Rattle.rules.specs.Keeping.{Keep, all, within, among, Keeps, end, without, with, kept_leaves, kept_leaves_in, is_clipped}
use Rattle.rules.specs.Leaves.{Leaf, roots, NeverFalls}
use Rattle.rules.specs.Names.{Name}
use Rattle.rules.specs.ReadPlan.{Reading, entire, narrowed, is_empty, every, leaves_on, numbers, first_number, read_leaves, read_keep, by_casts}
use Rattle.rules.specs.RootPlan.{is_listed}
use Rattle.rules.specs.Trees.{Tree, preorder, size}
use Rattle.rules.specs.Types.{Ty, leaf, struct, wrap, Fields, empty, field, leaf_count_of, leaf_count_in, same_type, type_at}
use Rattle.rules.proofs.Forests.{length-preorder}
use Rattle.rules.proofs.KeptNumbers.{Between, between_forth, kept_between}
use Rattle.rules.proofs.Written.{length-counting}
use Rattle.format.specs.declared.records.TypeRecord.{TypeRecord}
use Rattle.format.specs.Records.{no_type}
use Rattle.sheet.specs.declared.sheet.Sheet.{Sheet}
use Rattle.sheet.specs.Seen.{names_in, roots_in}
use Rattle.sheet.specs.SheetExpressions.{type_at_place}
use Rattle.sheet.specs.SheetTrees.{type_of, type_tree, root_trees, file_from, file_in}
use Rattle.sheet.specs.KeptTrees.{kept_tree}
use Rattle.sheet.proofs.KeptTrees.{kept_small}
use Rattle.nested.specs.declared.tables.ClipTable.{ClipTable}
use Rattle.nested.specs.Clips.{clip_at}
use Rattle.planner.specs.declared.readings.RootReading.{RootReading}
use Rattle.planner.specs.declared.readings.RootReading.TheVariants.{Unread, Entire, Along, Narrowed}
use Rattle.planner.specs.declared.readings.Uses.{Uses}
use Rattle.planner.specs.ReadPlans.{Written, written_by, leaves_of_reading, read_fields, uses_reading}
use Rattle.planner.specs.Readings.{paths_on, can_be_narrowed, by_targets, reading_of, Narrows, chosen_by, kept_by, fields_by, ClipFits, ClipShort, Reads}
use Rattle.planner.specs.RootPlans.{field_records}
use Rattle.planner.specs.Segments.{no_leaf, segment, Run}
use Rattle.planner.specs.Targets.{targets_on}
use Rattle.planner.proofs.Copied.{blank_tree, place_of, tree_count, tree_at_lem, rest_length}
use Rattle.planner.proofs.Padding.{behind, put_behind, length-put, pads, written_on}
use Rattle.planner.proofs.Planning.{kept_records, one_field, Planning, root_leaves, planning_on, leaves_all, fields_all, count_all}

-- where the first leaf of a type is i numbers further on, so is each kept leaf
counting_moved : (i j n : ℕ) → range_with_len (i + j) n ≡ map (λ o. i + o) (range_with_len j n)
counting_moved i j zero = refl
counting_moved i j (suc n) = let z : i + j + 1 ≡ i + (j + 1) = omega arith in ap (λ w. (i + j) ∷ w) (ap (λ q. range_with_len q n) z ∙ counting_moved i (j + 1) n)

mutual
  kept_moved : (k : Keep) (i j : ℕ) (t : Ty) → kept_leaves k (i + j) t ≡ map (λ o. i + o) (kept_leaves k j t)
  kept_moved all i j t = counting_moved i j (leaf_count_of t)
  kept_moved (within k) i j (leaf c) = counting_moved i j 1
  kept_moved (within k) i j (struct fs) = counting_moved i j (leaf_count_in fs)
  kept_moved (within k) i j (wrap w n b t) = kept_moved k i j t
  kept_moved (among ks) i j (leaf c) = counting_moved i j 1
  kept_moved (among ks) i j (struct fs) = kept_moved_in ks i j fs
  kept_moved (among ks) i j (wrap w n b t) = counting_moved i j (leaf_count_of t)

  kept_moved_in : (ks : Keeps) (i j : ℕ) (fs : Fields) → kept_leaves_in ks (i + j) fs ≡ map (λ o. i + o) (kept_leaves_in ks j fs)
  kept_moved_in end i j fs = refl
  kept_moved_in (without ks) i j empty = refl
  kept_moved_in (without ks) i j (field n b t fs) =
      let z : i + j + leaf_count_of t ≡ i + (j + leaf_count_of t) = omega arith in
      ap (λ q. kept_leaves_in ks q fs) z ∙ kept_moved_in ks i (j + leaf_count_of t) fs
  kept_moved_in (with k ks) i j empty = refl
  kept_moved_in (with k ks) i j (field n b t fs) =
      let z : i + j + leaf_count_of t ≡ i + (j + leaf_count_of t) = omega arith in
      ap₂ ◌++◌ (kept_moved k i j t) (ap (λ q. kept_leaves_in ks q fs) z ∙ kept_moved_in ks i (j + leaf_count_of t) fs)
      ∙ sym (map-append (λ o. i + o) (kept_leaves k j t) (kept_leaves_in ks (j + leaf_count_of t) fs))

kept_from : (k : Keep) (i : ℕ) (t : Ty) → kept_leaves k i t ≡ map (λ o. i + o) (kept_leaves k 0 t)
kept_from k i t = let z : i ≡ i + 0 = omega arith in ap (λ q. kept_leaves k q t) z ∙ kept_moved k i 0 t

-- each number of those between two is below the second
below_high : (low high : ℕ) (xs : List ℕ) (k d : ℕ) → Between low high xs → k < length xs → get_or xs k d < high
below_high low high [] k d b h = absurd (omega arith)
below_high low high (x ∷ xs) zero d b h = omega (arith, between_forth (x + 1) high xs b.1)
below_high low high (x ∷ xs) (suc k) d b h = below_high (x + 1) high xs k d b.1 (omega arith)

-- a kept leaf is one of the type's
kept_below : (k : Keep) (t : Ty) (i : ℕ) → i < length (kept_leaves k 0 t) → get_or (kept_leaves k 0 t) i 0 < leaf_count_of t
kept_below k t i h = omega (arith, below_high 0 (0 + leaf_count_of t) (kept_leaves k 0 t) i 0 (kept_between k 0 t) h)

-- the numbers of the leaves from one number up to another
module _ (ls : List Leaf) where
  numbered : (a n : ℕ) → numbers (map (λ i. (i, get_or ls i no_leaf)) (range_with_len a n)) ≡ range_with_len a n
  numbered a zero = refl
  numbered a (suc n) = ap (λ w. a ∷ w) (numbered (a + 1) n)

  segment_length : (a e : ℕ) → length (segment ls a e) ≡ e - a
  segment_length a e = length-map (range_with_len a (e - a)) (λ i. (i, get_or ls i no_leaf)) ∙ length-counting a (e - a)

  segment_first : (a e : ℕ) → a < e → first_number (segment ls a e) ≡ a
  segment_first a e h = let z : e - a ≡ suc (e - (a + 1)) = omega arith in ap (λ n. first_number (map (λ i. (i, get_or ls i no_leaf)) (range_with_len a n))) z

-- the type of a root
type_at_root : (names : List ℕ) (ts : List (Tree TypeRecord)) (r : ℕ) → r < length ts → type_at (file_from names ts) r ≡ type_of names (get_or ts r blank_tree)
type_at_root names [] r h = absurd (omega arith)
type_at_root names (t ∷ ts) zero h = refl
type_at_root names (t ∷ ts) (suc r) h = type_at_root names ts r (omega arith)

module _ (s : Sheet) (ls : List Leaf) (r n : ℕ) (h : r < length (roots_in s)) (long : length (leaves_on r 0 ls) ≡ n) where
  root_type : type_at (file_in s) r ≡ type_at_place s (place_of s r)
  root_type = type_at_root (names_in s) (root_trees s) r (omega (arith, tree_count s)) ∙ ap (type_of (names_in s)) (tree_at_lem s r h)

  same_choice : (gs : List Ty) (paths : List (List Name)) → by_casts (file_in s) ls r gs paths ≡ by_targets s (place_of s r) n gs paths
  same_choice [] paths = refl
  same_choice (g ∷ gs) paths =
      λ i. cond (is_empty paths && (every (same_type g) gs && (eqb (long i) (leaf_count_of (root_type i)) && is_clipped (root_type i) g))) (narrowed g) entire

  -- a root is read as the code tells it
  same_reading : (u : Uses) → reading_of s u r (place_of s r) n ≡ uses_reading s ls u r
  same_reading u = sym (ap (λ z. cond (is_listed u.required.now r) entire z) (same_choice (targets_on s u.casts.now r) (paths_on s u r)))

module _ (s : Sheet) (place n : ℕ) where
  abbrev here : Ty
  here = type_at_place s place

  -- only a root of which there are as many leaves as its type has is narrowed
  even : (b : Bool) (gs : List Ty) (paths : List (List Name)) (g : Ty) → cond b entire (by_targets s place n gs paths) ≡ narrowed g → n ≡ leaf_count_of here
  even true gs paths g e = absurd (let z : ◌≡◌ {A = ℕ} 0 1 = cc in omega arith)
  even false [] [] g e = absurd (let z : ◌≡◌ {A = ℕ} 0 1 = cc in omega arith)
  even false [] (p ∷ ps) g e = absurd (let z : ◌≡◌ {A = ℕ} 0 1 = cc in omega arith)
  even false (f ∷ gs) paths g e = by (can_be_narrowed s place n f gs paths) refl e
    where
      by : (b : Bool) → can_be_narrowed s place n f gs paths ≡ b → cond b (narrowed f) entire ≡ narrowed g → n ≡ leaf_count_of here
      by true t e = eqb-true n (leaf_count_of here) (and_parts _ _ (and_parts _ _ (and_parts _ _ t).1).1).0
      by false t e = absurd (let z : ◌≡◌ {A = ℕ} 0 1 = cc in omega arith)

  narrowed_even : (u : Uses) (r : ℕ) (g : Ty) → reading_of s u r place n ≡ narrowed g → n ≡ leaf_count_of here
  narrowed_even u r g e = even (is_listed u.required.now r) (targets_on s u.casts.now r) (paths_on s u r) g e

  module _ (goal : ℕ) (table : ClipTable) (w : Narrows s place n goal table) where
    abbrev keep : Keep
    keep = clip_at s place goal

    -- a clip that stands in its table is what the cast needs
    standing : (b : Bool) (x y : List ℕ × List TypeRecord) → Some y ≡ cond b (Some x) None → y ≡ x
    standing true x y e = cc
    standing false x y e = absurd (let z : ◌≡◌ {A = ℕ} 0 1 = cc in omega arith)

    both : ◌≡◌ {A = List ℕ × List TypeRecord} (table.offsets.items, table.types.items) (kept_leaves keep 0 here, preorder (kept_tree keep (type_tree s place)))
    both = standing (is_clipped here (type_at_place s goal)) (kept_leaves keep 0 here, preorder (kept_tree keep (type_tree s place))) (table.offsets.items, table.types.items) w.stands

    offsets_kept : table.offsets.items ≡ kept_leaves keep 0 here
    offsets_kept = ap (λ (x : List ℕ × List TypeRecord). x.0) both

    types_kept : table.types.items ≡ preorder (kept_tree keep (type_tree s place))
    types_kept = ap (λ (x : List ℕ × List TypeRecord). x.1) both

    offset_below : n ≡ leaf_count_of here → (k : ℕ) → k < length table.offsets.items → get_or table.offsets.items k 0 < n
    offset_below e k h =
        omega (arith, e, ap (λ xs. get_or xs k 0) offsets_kept, kept_below keep here k (omega (arith, ap length offsets_kept)))

    types_short : length table.types.items ≤ size (type_tree s place)
    types_short =
        omega (arith, ap length types_kept, length-preorder (kept_tree keep (type_tree s place)), kept_small keep (type_tree s place))

    offsets_moved : (first : ℕ) → map (λ o. first + o) table.offsets.items ≡ kept_leaves keep first here
    offsets_moved first = ap (map (λ o. first + o)) offsets_kept ∙ sym (kept_from keep first here)

  clip_short : (paths : List (List Name)) (table : ClipTable) (reading : Reading) (told : RootReading) → Reads s place n paths told table reading → ClipShort told table (size (type_tree s place))
  clip_short paths table reading Unread w = tt
  clip_short paths table reading Entire w = tt
  clip_short paths table reading Along w = tt
  clip_short paths table reading Narrowed w = types_short w.0 table w.2

-- what the code tells of a root whose leaves are those from `first` up to `end`
module _ (s : Sheet) (place first end : ℕ) (paths : List (List Name)) (table : ClipTable) (reading : Reading) where
  abbrev Told : RootReading → Type 0
  Told told = Reads s place (end - first) paths told table reading

  -- a clip keeps leaves of the root
  clip_fits : (told : RootReading) → ((g : Ty) → reading ≡ narrowed g → end - first ≡ leaf_count_of (type_at_place s place)) → Told told → ClipFits told table first end
  clip_fits Unread even w = tt
  clip_fits Entire even w = tt
  clip_fits Along even w = tt
  clip_fits Narrowed even w = (omega (arith, w.2.fewer), λ k h. omega (arith, w.2.fewer, offset_below s place (end - first) w.0 table w.2 (even _ w.1) k h))

  -- the leaves that the code chooses are those that are read
  chosen_read : (ls : List Leaf) (told : RootReading) → Told told → chosen_by ls paths told table first end ≡ read_leaves reading (type_at_place s place) (segment ls first end)
  chosen_read ls Unread w = ap (λ q. read_leaves q (type_at_place s place) (segment ls first end)) (sym w)
  chosen_read ls Entire w = sym (numbered ls first (end - first)) ∙ ap (λ q. read_leaves q (type_at_place s place) (segment ls first end)) (sym w)
  chosen_read ls Along w = ap (λ q. read_leaves q (type_at_place s place) (segment ls first end)) (sym w)
  chosen_read ls Narrowed w =
      offsets_moved s place (end - first) w.0 table w.2 first
      ∙ ap (λ i. kept_leaves (clip_at s place w.0) i (type_at_place s place)) (sym (segment_first ls first end (omega (arith, w.2.fewer))))
      ∙ ap (λ q. read_leaves q (type_at_place s place) (segment ls first end)) (sym w.1)

  -- the records that it keeps are those of the root's field
  records_kept : (told : RootReading) → Told told → kept_by s place paths told table ≡ kept_records (read_keep reading (type_at_place s place)) (type_tree s place)
  records_kept Unread w = ap (λ q. kept_records (read_keep q (type_at_place s place)) (type_tree s place)) (sym w)
  records_kept Entire w = ap (λ q. kept_records (read_keep q (type_at_place s place)) (type_tree s place)) (sym w)
  records_kept Along w = ap (λ q. kept_records (read_keep q (type_at_place s place)) (type_tree s place)) (sym w)
  records_kept Narrowed w = types_kept s place (end - first) w.0 table w.2 ∙ ap (λ q. kept_records (read_keep q (type_at_place s place)) (type_tree s place)) (sym w.1)

  fields_counted : (told : RootReading) → Told told → fields_by told ≡ one_field (read_keep reading (type_at_place s place))
  fields_counted Unread w = ap (λ q. one_field (read_keep q (type_at_place s place))) (sym w)
  fields_counted Entire w = ap (λ q. one_field (read_keep q (type_at_place s place))) (sym w)
  fields_counted Along w = ap (λ q. one_field (read_keep q (type_at_place s place))) (sym w)
  fields_counted Narrowed w = ap (λ q. one_field (read_keep q (type_at_place s place))) (sym w.1)

-- what the code tells of root r
abbrev pub ToldOf : Sheet → Uses → (r place n : ℕ) → RootReading → ClipTable → Type 0
ToldOf s u r place n told table = Reads s place n (paths_on s u r) told table (reading_of s u r place n)

module _ (u : Uses) (r : ℕ) (told : RootReading) (table : ClipTable) where
  -- it was told of the same type
  pub told_there : (s' s : Sheet) (p' p n' n : ℕ) → s' ≡ s → p' ≡ p → n' ≡ n → ToldOf s' u r p' n' told table → ToldOf s u r p n told table
  told_there s' s p' p n' n e f g w = subst (λ (x : Sheet × (ℕ × ℕ)). ToldOf x.0 u r x.1.0 x.1.1 told table) (λ k. (e k, (f k, g k))) w

  module _ (s : Sheet) (place n : ℕ) (w : ToldOf s u r place n told table) where
    -- a clip keeps leaves of the root, and no more records than its field has
    pub told_fits : (first stop : ℕ) → n ≡ stop - first → ClipFits told table first stop
    told_fits first stop e = clip_fits s place first stop (paths_on s u r) table (reading_of s u r place (stop - first)) told (narrowed_even s place (stop - first) u r) (subst (λ m. ToldOf s u r place m told table) e w)

    pub told_short : ClipShort told table (size (type_tree s place))
    told_short = clip_short s place n (paths_on s u r) table (reading_of s u r place n) told w

-- one more root is planned
module _ (s : Sheet) (ls : List Leaf) (u : Uses) (r first n fields types : ℕ) (mask : List ℕ) (schema : List TypeRecord) (h : r < length (roots_in s)) (p : Planning s ls (uses_reading s ls u) r first n fields types mask schema) where
  abbrev place : ℕ
  place = place_of s r

  pub room_at_root : types + size (type_tree s place) ≤ length schema
  room_at_root = omega (arith, p.room, rest_length s r h)

  module _ (rising : NeverFalls (roots ls)) (end : ℕ) (run : Run ls r first end) (told : RootReading) (table : ClipTable) (w : ToldOf s u r place (end - first) told table) where
    abbrev reading : Reading
    reading = uses_reading s ls u r

    own : leaves_on r 0 ls ≡ segment ls first end
    own = root_leaves s ls (uses_reading s ls u) rising r first n fields types end mask schema h p run

    reads : Reads s place (end - first) (paths_on s u r) told table reading
    reads = subst (Reads s place (end - first) (paths_on s u r) told table) (same_reading s ls r (end - first) h (ap length own ∙ segment_length ls first end) u) w

    pub root_planned : (m k x : ℕ) (part : List ℕ) (written : List TypeRecord) → length part ≡ length (behind n mask) → length written ≡ length (behind types schema) → length ls ≤ length mask
        → take m part ≡ chosen_by ls (paths_on s u r) told table first end → m ≤ end - first
        → take x written ≡ kept_by s place (paths_on s u r) told table → x ≤ size (type_tree s place)
        → k ≡ fields_by told
        → Planning s ls (uses_reading s ls u) (r + 1) end (n + m) (fields + k) (types + x) (put_behind n mask part) (put_behind types schema written)
    root_planned m k x part written long longer room chosen low copied reach counted =
        planning_on s ls (uses_reading s ls u) rising r first n fields types end mask schema h p run (n + m) (fields + k) (types + x) (put_behind n mask part) (put_behind types schema written)
        (written_on n m mask part _ long (omega (arith, p.few, run.forth, run.within)) (chosen ∙ chosen_read s place first end (paths_on s u r) table reading ls told reads ∙ (λ i. read_leaves reading (type_at_place s place) (sym own i)))) (omega (arith, p.few, run.forth))
        (written_on types x schema written _ longer (omega (arith, room_at_root, reach)) (copied ∙ records_kept s place first end (paths_on s u r) table reading told reads))
        (omega (arith, reach)) (length-put types schema written longer)
        (ap (λ f. fields + f) (counted ∙ fields_counted s place first end (paths_on s u r) table reading told reads))

-- what is written once all roots are passed, and blanks behind it
module _ (s : Sheet) (ls : List Leaf) (reading : ℕ → Reading) (r first n fields types : ℕ) (mask : List ℕ) (schema : List TypeRecord) (over : length (roots_in s) ≤ r) (p : Planning s ls reading r first n fields types mask schema) where
  pub all_planned : (leaves zeros : List ℕ) (records blanks : List TypeRecord) → length mask ≡ length leaves → length schema ≡ length records → length ls ≤ length leaves
      → zeros ≡ replicate (length (behind n mask)) 0 → blanks ≡ replicate (length (behind types schema)) no_type
      → ◌≡◌ {A = Written} (record { leaves = n; fields = fields; types = types }, (put_behind n mask zeros, put_behind types schema blanks)) (written_by s ls reading leaves records)
  all_planned leaves zeros records blanks long longer room zeroed emptied =
      let low : n ≤ length mask = omega (arith, p.few, p.at.within) in
      let low' : types ≤ length schema = omega (arith, p.room) in
      let a = leaves_all s ls reading r first n fields types mask schema over p in
      let b = fields_all s ls reading r first n fields types mask schema over p in
      let e : n ≡ length (leaves_of_reading s ls reading) = sym (length-take-le n mask low) ∙ ap length a in
      let f = count_all s ls reading r first n fields types mask schema over p in
      let g : types ≡ length (field_records (read_fields s reading)) = sym (length-take-le types schema low') ∙ ap length b in
      let x = pads 0 mask zeros (leaves_of_reading s ls reading) n (length leaves) low long a zeroed in
      let y = pads no_type schema blanks (field_records (read_fields s reading)) types (length records) low' longer b emptied in
      λ i. (record { leaves = e i; fields = f i; types = g i }, (x i, y i))
