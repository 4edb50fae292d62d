-- A clip of a type of a sheet, from child to child. Assumes nothing.
use Rattle.std.proofs.Common.{◌≡◌, ℕ, suc, ◌+◌, ◌-◌, ◌<◌, ◌≤◌, Bool, true, false, cond, [], ◌∷◌, ◌++◌, length, set, Some, None, sym, refl, ap, ◌∙◌, subst, arith, length-append}
use Rattle.rules.specs.Keeping.{Keep, all, within, among, Keeps, end, with, clipped, clipped_fields, met, is_void, are_void}
use Rattle.rules.specs.Trees.{Tree, node, Forest, none, more, size, sizes}
use Rattle.rules.specs.Types.{Ty, struct, Fields, empty, field, leaf_count_of, type_named}
use Rattle.format.specs.declared.records.TypeRecord.{TypeRecord}
use Rattle.sheet.specs.declared.sheet.Sheet.{Sheet}
use Rattle.sheet.specs.Children.{IsNext}
use Rattle.sheet.specs.declared.children.Children.{Children}
use Rattle.sheet.specs.declared.type_ref.TypeRef.{TypeRef}
use Rattle.sheet.proofs.Siblings.{Under, Sibling, sibling, no_row, no_fields}
use Rattle.sheet.specs.Seen.{types_in}
use Rattle.sheet.specs.SheetTrees.{type_tree}
use Rattle.sheet.specs.SheetExpressions.{type_at_place}
use Rattle.sheet.specs.KeptTrees.{kept_tree, kept_forest}
use Rattle.sheet.proofs.Readers.{type_record_at, type_row, fields_at, name_at, nullable_at, type_unrolled, type_row_more}
use Rattle.nested.specs.declared.tables.ClipTable.{ClipTable}
use Rattle.nested.specs.Clips.{clip_at}
use Rattle.nested.specs.ClipSteps.{Added, head_of}
use Rattle.nested.specs.Found.{fields_under}
use Rattle.nested.proofs.ClipTurns.{kept, written, written_more, Going, dropped, void_within, void_here, matched, not_void, all_written, all_counted, struct_added, list_added}
use Rattle.nested.proofs.PairViews.{AreStructs, AreLists, AreOthers}
use Rattle.nested.proofs.Finding.{under_is}

-- what a clip of the types at two places tells, and what it adds
abbrev pub Tells : Bool → Sheet → ℕ → ℕ → Type 0
Tells b s p g = b ≡ is_void (clip_at s p g) (type_at_place s p)

abbrev pub Adds : ℕ → ClipTable → ℕ → ClipTable → Sheet → ℕ → ℕ → Type 0
Adds was before is after s p g = Added (clip_at s p g) (type_at_place s p) (type_tree s p) was before is after

-- the same kept of the same type
pub moved : {k j : Keep} {t u : Ty} {a b : Tree TypeRecord} (was : ℕ) (before : ClipTable) (is : ℕ) (after : ClipTable) → k ≡ j → t ≡ u → a ≡ b → Added j u b was before is after → Added k t a was before is after
moved was before is after ek et ea h =
    subst (λ (y : Keep × (Ty × Tree TypeRecord)). Added y.0 y.1.0 y.1.1 was before is after) (λ i. (sym ek i, (sym et i, sym ea i))) h

module _ (s : Sheet) (p g : ℕ) where
  abbrev gs : Fields
  gs = fields_under s g

  abbrev kids : ℕ
  kids = (type_record_at s p).children

  abbrev fs : Fields
  fs = fields_at s kids (p + 1)

  abbrev ks : Keeps
  ks = clipped_fields fs gs

  abbrev rs : Forest TypeRecord
  rs = type_row s kids (p + 1)

  pub record Walking (was : ℕ) (before : ClipTable) (it : Children) (is : ℕ) (table : ClipTable) (children : ℕ) : Type 0 where
    pub at : Under s p it
    pub going : Going fs ks rs was before (fields_at s it.left it.next) (clipped_fields (fields_at s it.left it.next) gs) (type_row s it.left it.next) is table children

  -- what a turn at a child can do, where the state is as given
  module _ (was : ℕ) (before : ClipTable) (it : Children) (is : ℕ) (table : ClipTable) (children : ℕ) where
    pub record Turn (child : TypeRef) (then : Children) : Type 0 where
      pub here : Sibling s p it child then
      pub room : kept table + leaf_count_of (type_at_place s child.place) ≤ 2048
      pub low : is + leaf_count_of (type_at_place s child.place) ≤ was + leaf_count_of (type_at_place s p)
      pub space : written table + size (type_tree s child.place) ≤ 2048
      -- no field of the goal bears the name
      pub past : None ≡ type_named (name_at s child.place) gs → (m : ℕ) → m ≡ leaf_count_of (type_at_place s child.place) → Walking was before then (is + m) table children
      -- the field at q does: the clip is void inside, or keeps no leaf, or goes on
      pub void : (q : ℕ) → Some (type_at_place s q) ≡ type_named (name_at s child.place) gs → true ≡ is_void (clip_at s child.place q) (type_at_place s child.place) → true ≡ is_void (clip_at s p g) (type_at_place s p)
      pub none : (q : ℕ) → Some (type_at_place s q) ≡ type_named (name_at s child.place) gs → (on : ℕ) (after : ClipTable) → Added (clip_at s child.place q) (type_at_place s child.place) (type_tree s child.place) is table on after
          → kept after ≡ kept table → true ≡ is_void (clip_at s p g) (type_at_place s p)
      pub kept : (q : ℕ) → Some (type_at_place s q) ≡ type_named (name_at s child.place) gs → (on : ℕ) (after : ClipTable) → Added (clip_at s child.place q) (type_at_place s child.place) (type_tree s child.place) is table on after
          → false ≡ is_void (clip_at s child.place q) (type_at_place s child.place) → (kept after ≡ kept table → ⊥) → Walking was before then on after (children + 1)

-- Two Structs.
module _ {s : Sheet} {p g : ℕ} (hp : p < length (types_in s)) (hg : g < length (types_in s)) (both : AreStructs s p g) where
  abbrev F : Fields
  F = fs s p g

  abbrev K : Keeps
  K = ks s p g

  abbrev R : Forest TypeRecord
  R = rs s p g

  type_is : type_at_place s p ≡ struct F
  type_is = both.here

  goal_is : type_at_place s g ≡ struct (fields_under s g)
  goal_is = both.there ∙ ap struct (sym (under_is s g hg))

  keep_is : clip_at s p g ≡ among K
  keep_is = λ i. clipped (type_is i) (goal_is i)

  tree_is : type_tree s p ≡ node (type_record_at s p) R
  tree_is = type_unrolled s p hp

  void_is : are_void K F ≡ is_void (clip_at s p g) (type_at_place s p)
  void_is = λ i. is_void (sym keep_is i) (sym type_is i)

  module _ {was : ℕ} {before : ClipTable} where
    module _ {it : Children} {is : ℕ} {table : ClipTable} {children : ℕ} (i : Walking s p g was before it is table children) where
      module _ {child : TypeRef} {then : Children} (next : IsNext it child then) where
        abbrev c : ℕ
        c = child.place

        abbrev T : Ty
        T = type_at_place s c

        abbrev F2 : Fields
        F2 = fields_at s then.left then.next

        abbrev K2 : Keeps
        K2 = clipped_fields F2 (fields_under s g)

        abbrev R2 : Forest TypeRecord
        R2 = type_row s then.left then.next

        abbrev Now : Keeps → Type 0
        Now k = Going F K R was before (field (name_at s c) (nullable_at s c) T F2) k (more (type_tree s c) R2) is table children

        here : Sibling s p it child then
        here = sibling i.at next

        turn : Now (met (type_named (name_at s c) (fields_under s g)) (clipped T) K2)
        turn = subst (λ (y : Fields × Forest TypeRecord). Going F K R was before y.0 (clipped_fields y.0 (fields_under s g)) y.1 is table children) (λ j. (here.fields j, here.row j)) i.going

        -- no field of the goal bears the name
        walk_past : None ≡ type_named (name_at s c) (fields_under s g) → (m : ℕ) → m ≡ leaf_count_of T → Walking s p g was before then (is + m) table children
        walk_past f m e =
            record { at = here.under; going = dropped F K R was before (name_at s c) (nullable_at s c) T F2 K2 (type_tree s c) R2 is table children m e (subst (λ o. Now (met o (clipped T) K2)) (sym f) turn) }

        -- the field at q does
        module _ (q : ℕ) (f : Some (type_at_place s q) ≡ type_named (name_at s c) (fields_under s g)) where
          now : Now (with (clip_at s c q) K2)
          now = subst (λ o. Now (met o (clipped T) K2)) (sym f) turn

          walk_void : true ≡ is_void (clip_at s c q) T → true ≡ is_void (clip_at s p g) (type_at_place s p)
          walk_void v = void_within F K R was before (name_at s c) (nullable_at s c) T F2 K2 (type_tree s c) R2 is table children (clip_at s c q) now v ∙ void_is

          module _ (on : ℕ) (after : ClipTable) (added : Added (clip_at s c q) T (type_tree s c) is table on after) where
            walk_empty : kept after ≡ kept table → true ≡ is_void (clip_at s p g) (type_at_place s p)
            walk_empty same = void_here F K R was before (name_at s c) (nullable_at s c) T F2 K2 (type_tree s c) R2 is table children (clip_at s c q) now on after added same ∙ void_is

            walk_on : false ≡ is_void (clip_at s c q) T → (kept after ≡ kept table → ⊥) → Walking s p g was before then on after (children + 1)
            walk_on v some = record { at = here.under; going = matched F K R was before (name_at s c) (nullable_at s c) T F2 K2 (type_tree s c) R2 is table children (clip_at s c q) now on after added v some }

        pub turned : Turn s p g was before it is table children child then
        turned = record {
          here = here;
          room = omega (arith, turn.room);
          low = omega (arith, turn.passed, ap leaf_count_of type_is);
          space = omega (arith, turn.space);
          past = walk_past;
          void = walk_void;
          none = walk_empty;
          kept = walk_on;
        }

      module _ (done : it.left ≡ 0) where
        over : Going F K R was before empty end none is table children
        over = subst (λ (y : Fields × Forest TypeRecord). Going F K R was before y.0 (clipped_fields y.0 (fields_under s g)) y.1 is table children) (λ j. (no_fields s it done j, no_row s it done j)) i.going

        pub ends_sound : false ≡ is_void (clip_at s p g) (type_at_place s p)
        ends_sound = not_void F K R was before is table children over ∙ void_is

        pub walk_ends : (r : TypeRecord) → r ≡ type_record_at s p → (start : ClipTable) → before.offsets ≡ start.offsets → before.types.items ≡ start.types.items ++ r ∷ [] → (after : ClipTable) → after.offsets ≡ table.offsets
            → after.types.items ≡ set table.types.items (written start) (head_of r children (written table - written start)) → Added (clip_at s p g) (type_at_place s p) (type_tree s p) was start is after
        walk_ends r er start so st after eo et =
            let w = all_written F K R was before is table children over in
            let c = all_counted F K R was before is table children over in
            let e : written table - written start ≡ suc (sizes (kept_forest K R)) = omega (arith, w, ap length st, length-append start.types.items (r ∷ [])) in
            moved was start is after keep_is type_is (tree_is ∙ ap (λ x. node x R) (sym er))
            (struct_added F K R was start before is table children over r (head_of r children (written table - written start)) so st (λ j. head_of r (c j) (e j)) after eo et)

-- Two lists.
module _ (s : Sheet) (p g : ℕ) (hp : p < length (types_in s)) (r : TypeRecord) (er : r ≡ type_record_at s p) (both : AreLists s p g) where
  item_keep : clip_at s p g ≡ within (clip_at s (p + 1) (g + 1))
  item_keep = (λ i. clipped (both.here i) (both.there i)) ∙ ap (λ b. cond b (within (clip_at s (p + 1) (g + 1))) all) both.alike

  item_tree : type_tree s p ≡ node r (more (type_tree s (p + 1)) none)
  item_tree =
      type_unrolled s p hp ∙ ap (λ m. node (type_record_at s p) (type_row s m (p + 1))) both.one ∙ ap (node (type_record_at s p)) (type_row_more s 0 (p + 1) both.item)
      ∙ ap (λ x. node x (more (type_tree s (p + 1)) none)) (sym er)

  pub item_leaves : leaf_count_of (type_at_place s p) ≡ leaf_count_of (type_at_place s (p + 1))
  item_leaves = ap leaf_count_of both.here

  pub item_size : size (type_tree s p) ≡ size (type_tree s (p + 1)) + 1
  item_size = omega (arith, ap size item_tree)

  pub item_void : is_void (clip_at s (p + 1) (g + 1)) (type_at_place s (p + 1)) ≡ is_void (clip_at s p g) (type_at_place s p)
  item_void = λ i. is_void (sym item_keep i) (sym both.here i)

  pub item_ends : (was : ℕ) (start before : ClipTable) (is : ℕ) (table : ClipTable) → Added (clip_at s (p + 1) (g + 1)) (type_at_place s (p + 1)) (type_tree s (p + 1)) was before is table
      → before.offsets ≡ start.offsets → before.types.items ≡ start.types.items ++ r ∷ [] → (after : ClipTable) → after.offsets ≡ table.offsets
      → after.types.items ≡ set table.types.items (written start) (head_of r 1 (written table - written start)) → Added (clip_at s p g) (type_at_place s p) (type_tree s p) was start is after
  item_ends was start before is table a so st after eo et =
      let k = clip_at s (p + 1) (g + 1) in
      let tree = type_tree s (p + 1) in
      let e : written table - written start ≡ suc (size (kept_tree k tree) + 0) = omega (arith, written_more a, ap length st, length-append start.types.items (r ∷ [])) in
      moved was start is after item_keep both.here item_tree
      (list_added k (type_at_place s (p + 1)) tree both.w _ _ was start before is table a r (head_of r 1 (written table - written start)) so st (λ j. head_of r 1 (e j)) after eo et)

-- Two others.
module _ (s : Sheet) (p g : ℕ) (both : AreOthers s p g) where
  pub others_sound : false ≡ is_void (clip_at s p g) (type_at_place s p)
  others_sound = ap (λ k. is_void k (type_at_place s p)) (sym both.kept)

  pub others_added : (was : ℕ) (before : ClipTable) (is : ℕ) (after : ClipTable) → Added all (type_at_place s p) (type_tree s p) was before is after → Added (clip_at s p g) (type_at_place s p) (type_tree s p) was before is after
  others_added was before is after a = moved was before is after both.kept refl refl a
