-- A Struct that is pruned child by child, with its head written last. Assumes nothing.
use Rattle.std.proofs.Common.{◌≡◌, ℕ, suc, ◌+◌, ◌-◌, ◌<◌, ◌≤◌, true, false, cond, eqb, ◌⊎◌, List, [], ◌∷◌, ◌++◌, length, take, drop, set, Some, Option, sym, refl, ap, ◌∙◌, inl, inr, append_assoc, append-nil, arith, length-drop, length-take-le}
use Rattle.std.proofs.lemmas.Bool.{eqb-true, eqb-false}
use Rattle.std.proofs.lemmas.List.{take-append-le}
use Rattle.std.proofs.Math.Seq.{take-append-add}
use Rattle.rules.specs.Keeping.{all, among, ends_here, onward, continued, pruned, pruned_fields}
use Rattle.rules.specs.Names.{Name}
use Rattle.rules.specs.Trees.{node, Forest, none, more, count, preorder, preorders, size, sizes}
use Rattle.rules.specs.Types.{Wrapper, list, large_list, list_view, large_list_view, fixed_size_list, map, Ty, wrapper_kind}
use Rattle.rules.proofs.Written.{headed}
use Rattle.format.specs.declared.kinds.TypeKind.{TypeKind}
use Rattle.format.specs.declared.kinds.TypeKind.TheVariants.{Struct}
use Rattle.format.specs.declared.records.TypeRecord.{TypeRecord}
use Rattle.format.specs.Kinds.{type_kind_of}
use Rattle.format.specs.Records.{no_type}
use Rattle.sheet.specs.declared.sheet.Sheet.{Sheet}
use Rattle.sheet.specs.Children.{IsNext}
use Rattle.sheet.specs.declared.children.Children.{Children}
use Rattle.sheet.specs.declared.type_ref.TypeRef.{TypeRef}
use Rattle.sheet.specs.KeptTrees.{headed_by, kept_tree, kept_forest}
use Rattle.sheet.specs.Seen.{types_in}
use Rattle.sheet.specs.SheetExpressions.{type_at_place}
use Rattle.sheet.specs.SheetTrees.{type_tree}
use Rattle.sheet.proofs.KeptTrees.{kept_small, kept_forest_small, kept_forest_few}
use Rattle.sheet.proofs.Readers.{type_record_at, type_span, type_row, fields_at, name_at, type_unrolled, TypeView, is_leaf, is_struct, is_wrap, type_view}
use Rattle.sheet.proofs.Siblings.{Under, under, Sibling, sibling}
use Rattle.sheet.proofs.Sheets.{few_types, type_size, type_within}
use Rattle.access.specs.Following.{kept_at}

-- a kind that was read, and what it is
pub kind_other : (o : Option TypeKind) (x : TypeKind) → o ≡ Some x → (x ≡ Struct → ⊥) → o ≡ Some Struct → ⊥
kind_other o x e other h = let same : x ≡ Struct = cc in other same

-- what stands before a part of a buffer, and what was written to the part's front
pub part_written : {A : Type 0} (at n : ℕ) (xs part rest : List A) → at ≤ length xs → n ≤ length part → take (at + n) (take at xs ++ (part ++ rest)) ≡ take at xs ++ take n part
part_written at n xs part rest inside enough =
    ap (λ m. take (m + n) (take at xs ++ (part ++ rest))) (sym (length-take-le at xs inside)) ∙ take-append-add (take at xs) (part ++ rest) n ∙ ap (λ w. take at xs ++ w) (take-append-le n part rest enough)

few_sizes : (f : Forest TypeRecord) → count f ≤ sizes f
few_sizes none = omega arith
few_sizes (more (node r g) f) = omega (arith, few_sizes f)

no_leaf : type_kind_of 1 ≡ Some Struct → ⊥
no_leaf e = cc

no_struct : (w : Wrapper) → type_kind_of (wrapper_kind w) ≡ Some Struct → ⊥
no_struct list e = cc
no_struct large_list e = cc
no_struct list_view e = cc
no_struct large_list_view e = cc
no_struct (fixed_size_list n) e = cc
no_struct (map d) e = cc

module _ (s : Sheet) (ps : List (List Name)) where
  -- what is left of n types side by side from a place on
  abbrev pub kept_row : ℕ → ℕ → Forest TypeRecord
  kept_row n c = kept_forest (pruned_fields ps (fields_at s n c)) (type_row s n c)

  module _ (p : ℕ) where
    abbrev kids : ℕ
    kids = (type_record_at s p).children

    -- what is left of all children
    abbrev pub whole : Forest TypeRecord
    whole = kept_row kids (p + 1)

    module _ (there : p < length (types_in s)) where
      -- a Struct where no path ends
      struct_kept : type_kind_of (type_record_at s p).kind ≡ Some Struct → false ≡ ends_here ps → kept_at s ps p ≡ node (headed_by (type_record_at s p) whole) whole
      struct_kept two goes = by (type_view s p there)
        where
          by : TypeView s p → kept_at s ps p ≡ node (headed_by (type_record_at s p) whole) whole
          by (is_leaf k n m e) = absurd (no_leaf (sym (ap type_kind_of k) ∙ two))
          by (is_struct k e) =
              (λ j. kept_tree (pruned ps (e j)) (type_unrolled s p there j))
              ∙ ap (λ b. kept_tree (cond b all (among (pruned_fields ps (fields_at s kids (p + 1))))) (node (type_record_at s p) (type_row s kids (p + 1)))) (sym goes)
          by (is_wrap w k d n h m e) = absurd (no_struct w (sym (ap type_kind_of k) ∙ two))

      -- any other type, and a type where a path ends
      pub whole_kept : (type_kind_of (type_record_at s p).kind ≡ Some Struct → ⊥) ⊎ (true ≡ ends_here ps) → kept_at s ps p ≡ type_tree s p
      whole_kept o = by (type_view s p there) o
        where
          by : TypeView s p → (type_kind_of (type_record_at s p).kind ≡ Some Struct → ⊥) ⊎ (true ≡ ends_here ps) → kept_at s ps p ≡ type_tree s p
          by (is_leaf k n m e) o = ap (λ (t : Ty). kept_tree (pruned ps t) (type_tree s p)) e
          by (is_struct k e) (inl other) = absurd (other (ap type_kind_of k))
          by (is_struct k e) (inr ends) =
              ap (λ (t : Ty). kept_tree (pruned ps t) (type_tree s p)) e
              ∙ ap (λ b. kept_tree (cond b all (among (pruned_fields ps (fields_at s kids (p + 1))))) (type_tree s p)) (sym ends)
          by (is_wrap w k d n h m e) o = ap (λ (t : Ty). kept_tree (pruned ps t) (type_tree s p)) e

      tree_size : size (type_tree s p) ≡ suc (sizes (type_row s kids (p + 1)))
      tree_size = ap size (type_unrolled s p there)

      pub room_for_head : (n : ℕ) → size (type_tree s p) ≤ n → 0 < n
      room_for_head n h = omega (arith, tree_size)

      -- a head's numbers are small
      small : (count whole ≤ 2047) × (sizes whole ≤ 2047)
      small =
          let f = type_row s kids (p + 1) in
          let ks = pruned_fields ps (fields_at s kids (p + 1)) in
          let w = type_within s p there in
          let m = few_types s in
          (omega (arith, kept_forest_few ks f, few_sizes f, tree_size), omega (arith, kept_forest_small ks f, tree_size))

-- A walk over the children of a Struct.
module _ (here : TypeRef) (ps : List (List Name)) where
  abbrev s : Sheet
  s = here.sheet.now

  abbrev p : ℕ
  p = here.place

  -- what is left of all children, and of those that are to come
  abbrev all_kept : Forest TypeRecord
  all_kept = whole s ps p

  abbrev to_come : Children → Forest TypeRecord
  to_come it = kept_row s ps it.left it.next

  -- Where the walk is: the records that are written, and then those of the children to come, are the whole.
  pub record Pruning (head : TypeRecord) (start : List TypeRecord) (it : Children) (end children : ℕ) (fields : List TypeRecord) : Type 0 where
    pub at : Under s p it
    pub top : head ≡ type_record_at s p
    pub long : end + sizes (to_come it) ≡ 1 + sizes all_kept
    pub types : take end fields ++ preorders (to_come it) ≡ take 1 start ++ preorders all_kept
    pub counted : children + count (to_come it) ≡ count all_kept
    pub room : end + (p + type_span s p) ≤ length fields + it.next

  -- what a turn of the walk has to know of the child that it is at
  pub record Fits (child end children : ℕ) (fields : List TypeRecord) : Type 0 where
    pub less : type_span s child < type_span s p
    pub room : end + size (type_tree s child) ≤ length fields
    pub low : (depth : ℕ) → depth + size (type_tree s p) ≤ 2048 → depth + 1 + size (type_tree s child) ≤ 2048
    pub few : children ≤ 2047
    pub short : end ≤ 2048
    pub inside : end ≤ length fields
    pub fits : (onw : List (List Name)) → end + size (kept_at s onw child) ≤ 4096

  pub prune_starts : (head : TypeRecord) (start : List TypeRecord) (it : Children) → head ≡ type_record_at s p → it.above ≡ here → it.next ≡ p + 1 → it.left ≡ (type_record_at s p).children → size (type_tree s p) ≤ length start
      → Pruning head start it 1 0 start
  prune_starts head start it top above next left room =
      let first : to_come it ≡ all_kept = λ i. kept_row s ps (left i) (next i) in
      record {
        at = under above;
        top = top;
        long = ap (λ f. 1 + sizes f) first;
        types = ap (λ f. take 1 start ++ preorders f) first;
        counted = omega (arith, ap count first);
        room = omega (arith, next, type_size s p here.there, room);
      }

module _ {here : TypeRef} {ps : List (List Name)} {head : TypeRecord} {start : List TypeRecord} {it : Children} {end children : ℕ} {fields : List TypeRecord} (i : Pruning here ps head start it end children fields) where
  abbrev sheet : Sheet
  sheet = here.sheet.now

  -- one child
  module _ {child : TypeRef} {then : Children} (is_next : IsNext it child then) where
    pub child_is : Sibling sheet here.place it child then
    child_is = sibling i.at is_next

    own : type_span sheet child.place ≡ size (type_tree sheet child.place)
    own = type_size sheet child.place child_is.there

    pub fits : Fits here ps child.place end children fields
    fits =
        let few_whole = small sheet ps here.place here.there in
        record {
          less = omega (arith, child_is.inside, child_is.behind);
          room = omega (arith, child_is.inside, child_is.place, i.room, own);
          low = λ depth h. omega (arith, child_is.inside, child_is.behind, type_size sheet here.place here.there, own);
          few = omega (arith, i.counted, few_whole.0);
          short = omega (arith, i.long, few_whole.1);
          inside = omega (arith, child_is.inside, child_is.place, i.room);
          fits = λ onw. omega (arith, i.long, few_whole.1, kept_small (pruned onw (type_at_place sheet child.place)) (type_tree sheet child.place), type_within sheet child.place child_is.there, few_types sheet);
        }

    step : (onw : List (List Name)) → onw ≡ onward (name_at sheet child.place) ps
        → to_come here ps it ≡ kept_forest (continued onw (pruned onw (type_at_place sheet child.place)) (pruned_fields ps (fields_at sheet then.left then.next))) (more (type_tree sheet child.place) (type_row sheet then.left then.next))
    step onw e =
        (λ j. kept_forest (pruned_fields ps (child_is.fields j)) (child_is.row j))
        ∙ ap (λ o. kept_forest (continued o (pruned o (type_at_place sheet child.place)) (pruned_fields ps (fields_at sheet then.left then.next))) (more (type_tree sheet child.place) (type_row sheet then.left then.next))) (sym e)

    -- no path goes on by its name
    pub child_dropped : (onw : List (List Name)) → onw ≡ onward (name_at sheet child.place) ps → true ≡ eqb (length onw) 0 → Pruning here ps head start then end children fields
    child_dropped [] e h =
        let gives : to_come here ps it ≡ to_come here ps then = step [] e in
        record {
          at = child_is.under;
          top = i.top;
          long = omega (arith, i.long, ap sizes gives);
          types = ap (λ f. take end fields ++ preorders f) (sym gives) ∙ i.types;
          counted = omega (arith, i.counted, ap count gives);
          room = omega (arith, i.room, child_is.place, child_is.next);
        }
    child_dropped (q ∷ qs) e h = absurd (omega (arith, eqb-true (length (q ∷ qs)) 0 (sym h)))

    -- some do, and the child was pruned by them
    pub child_kept : (onw : List (List Name)) → onw ≡ onward (name_at sheet child.place) ps → false ≡ eqb (length onw) 0 → (n : ℕ) (part rest : List TypeRecord)
        → take n part ≡ preorder (kept_at sheet onw child.place) → n ≡ size (kept_at sheet onw child.place) → length part ≡ length (take (length fields - end) (drop end fields)) → length (take end fields ++ (part ++ rest)) ≡ length fields
        → Pruning here ps head start then (end + n) (children + 1) (take end fields ++ (part ++ rest))
    child_kept [] e h n part rest copied many long same = absurd (eqb-false 0 0 (sym h) refl)
    child_kept (q ∷ qs) e h n part rest copied many long same =
        let t = kept_at sheet (q ∷ qs) child.place in
        let later = to_come here ps then in
        let gives : to_come here ps it ≡ more t later = step (q ∷ qs) e in
        let low = kept_small (pruned (q ∷ qs) (type_at_place sheet child.place)) (type_tree sheet child.place) in
        let enough : n ≤ length part = omega (arith, low, fits.room, long, length-take-le (length fields - end) (drop end fields) (omega (arith, length-drop end fields))) in
        let after : take (end + n) (take end fields ++ (part ++ rest)) ≡ take end fields ++ preorder t = part_written end n fields part rest fits.inside enough ∙ ap (λ w. take end fields ++ w) copied in
        record {
          at = child_is.under;
          top = i.top;
          long = omega (arith, i.long, ap sizes gives);
          types = ap (λ w. w ++ preorders later) after ∙ append_assoc (take end fields) (preorder t) (preorders later) ∙ ap (λ f. take end fields ++ preorders f) (sym gives) ∙ i.types;
          counted = omega (arith, i.counted, ap count gives);
          room = omega (arith, i.room, child_is.place, child_is.next, low, own, same);
        }

  -- all children are done
  module _ (done : it.left ≡ 0) where
    abbrev written : TypeRecord
    written = record { kind = head.kind; nullable = head.nullable; detail = head.detail; children = children; span = end; name = head.name }

    over : to_come here ps it ≡ none
    over = ap (λ n. kept_row sheet ps n it.next) done

    reached : end ≡ 1 + sizes (all_kept here ps)
    reached = omega (arith, i.long, ap sizes over)

    pub long_enough : (0 < end) × (end ≤ 2048)
    long_enough = (omega (arith, reached), omega (arith, reached, (small sheet ps here.place here.there).1))

    written_is : written ≡ headed_by (type_record_at sheet here.place) (all_kept here ps)
    written_is =
        let n : children ≡ count (all_kept here ps) = omega (arith, i.counted, ap count over) in
        let m : end ≡ suc (sizes (all_kept here ps)) = omega (arith, reached) in
        λ j. record { kind = (i.top j).kind; nullable = (i.top j).nullable; detail = (i.top j).detail; children = n j; span = m j; name = (i.top j).name }

    pub struct_written : type_kind_of (type_record_at sheet here.place).kind ≡ Some Struct → false ≡ ends_here ps → size (type_tree sheet here.place) ≤ length start
        → (take end (set fields 0 written) ≡ preorder (kept_at sheet ps here.place)) × (end ≡ size (kept_at sheet ps here.place))
    struct_written two goes room =
        let e = struct_kept sheet ps here.place here.there two goes in
        let types : take end fields ≡ take 1 start ++ preorders (all_kept here ps) = sym (append-nil (take end fields)) ∙ ap (λ f. take end fields ++ preorders f) (sym over) ∙ i.types in (
          headed end 0 fields start (preorders (all_kept here ps)) written no_type long_enough.0 (room_for_head sheet ps here.place here.there (length start) room) types
              ∙ ap (λ (x : TypeRecord). x ∷ preorders (all_kept here ps)) written_is ∙ ap preorder (sym e),
          omega (arith, reached, ap size e),
        )

-- the type at the top
pub low_at_top : (s : Sheet) (p : ℕ) → p < length (types_in s) → size (type_tree s p) ≤ 2048
low_at_top s p there = omega (arith, type_within s p there, few_types s)
