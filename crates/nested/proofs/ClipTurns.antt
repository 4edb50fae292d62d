-- What one turn of a clip over the fields of a Struct adds, and what its end gives. Assumes nothing.
use Rattle.std.proofs.Common.{◌≡◌, ℕ, ◌+◌, ◌<◌, ◌≤◌, Bool, true, false, ◌||◌, eqb, List, [], ◌∷◌, ◌++◌, length, set, sym, refl, ap, ◌∙◌, append_assoc, append-nil, arith, length-append}
use Rattle.std.proofs.lemmas.Bool.{eq-eqb, ne_eqb}
use Rattle.std.proofs.lemmas.List.{set_at}
use Rattle.arrayvec.specs.ArrayVec.{ArrayVec}
use Rattle.rules.specs.Keeping.{Keep, within, among, Keeps, end, without, with, kept_leaves, kept_leaves_in, is_void, are_void}
use Rattle.rules.specs.Names.{Name}
use Rattle.rules.specs.Trees.{Tree, node, Forest, none, more, count, preorder, preorders, size, sizes}
use Rattle.rules.specs.Types.{Wrapper, Ty, struct, wrap, Fields, empty, field, leaf_count_of, leaf_count_in}
use Rattle.rules.proofs.Forests.{length-preorder, length-preorders}
use Rattle.format.specs.declared.records.TypeRecord.{TypeRecord}
use Rattle.sheet.specs.KeptTrees.{headed_by, kept_tree, kept_forest}
use Rattle.sheet.proofs.KeptTrees.{kept_small, kept_some}
use Rattle.nested.specs.declared.tables.ClipTable.{ClipTable}
use Rattle.nested.specs.ClipSteps.{Added}
use Rattle.nested.proofs.KeptLeaves.{kept_fits, kept_alike}

-- how much a table holds
abbrev pub kept : ClipTable → ℕ
kept table = length table.offsets.items

abbrev pub written : ClipTable → ℕ
written table = length table.types.items

-- a table with other records
abbrev pub with_types : ClipTable → ArrayVec TypeRecord → ClipTable
with_types table types = record { offsets = table.offsets; types = types }

-- what was added, counted
module _ {k : Keep} {t : Ty} {tree : Tree TypeRecord} {was : ℕ} {before : ClipTable} {is : ℕ} {after : ClipTable} (a : Added k t tree was before is after) where
  pub kept_more : kept after ≡ kept before + length (kept_leaves k was t)
  kept_more = ap length a.offsets ∙ length-append before.offsets.items (kept_leaves k was t)

  pub written_more : written after ≡ written before + size (kept_tree k tree)
  written_more = omega (arith, ap length a.types, length-append before.types.items (preorder (kept_tree k tree)), length-preorder (kept_tree k tree))

-- The fields in all, with what is kept of them and their trees; and the state where they begin.
module _ (fs : Fields) (all_kept : Keeps) (rs : Forest TypeRecord) (was : ℕ) (before : ClipTable) where
  -- what is added, and then what the fields that are left give, is the whole
  pub record Going (f : Fields) (ks : Keeps) (r : Forest TypeRecord) (is : ℕ) (table : ClipTable) (children : ℕ) : Type 0 where
    pub passed : is + leaf_count_in f ≡ was + leaf_count_in fs
    pub offsets : table.offsets.items ++ kept_leaves_in ks is f ≡ before.offsets.items ++ kept_leaves_in all_kept was fs
    pub voids : are_void ks f ≡ are_void all_kept fs
    pub types : table.types.items ++ preorders (kept_forest ks r) ≡ before.types.items ++ preorders (kept_forest all_kept rs)
    pub counted : children + count (kept_forest ks r) ≡ count (kept_forest all_kept rs)
    pub room : kept table + leaf_count_in f ≤ 2048
    pub space : written table + sizes r ≤ 2048
    pub few : children < written table

  module _ (name : Name) (b : Bool) (t : Ty) (f : Fields) (ks : Keeps) (tree : Tree TypeRecord) (r : Forest TypeRecord) (is : ℕ) (table : ClipTable) (children : ℕ) where
    -- a field that is not kept
    pub dropped : (n : ℕ) → n ≡ leaf_count_of t → Going (field name b t f) (without ks) (more tree r) is table children → Going f ks r (is + n) table children
    dropped n e i =
        let on : is + leaf_count_of t ≡ is + n = ap (λ m. is + m) (sym e) in
        record {
          passed = omega (arith, i.passed, e);
          offsets = ap (λ l. table.offsets.items ++ l) (ap (λ m. kept_leaves_in ks m f) (sym on)) ∙ i.offsets;
          voids = i.voids;
          types = i.types;
          counted = i.counted;
          room = omega (arith, i.room);
          space = omega (arith, i.space);
          few = i.few;
        }

    module _ (k : Keep) (i : Going (field name b t f) (with k ks) (more tree r) is table children) where
      -- a kept field is void, or keeps no leaf
      pub void_within : true ≡ is_void k t → true ≡ are_void all_kept fs
      void_within v = (λ j. sym (or_true (eqb (length (kept_leaves k 0 t)) 0)) j || are_void ks f) ∙ ap (λ w. (eqb (length (kept_leaves k 0 t)) 0 || w) || are_void ks f) v ∙ i.voids
        where
          or_true : (x : Bool) → (x || true) ≡ true
          or_true true = refl
          or_true false = refl

      module _ (on : ℕ) (after : ClipTable) (added : Added k t tree is table on after) where
        pub void_here : kept after ≡ kept table → true ≡ are_void all_kept fs
        void_here same =
            let no : length (kept_leaves k 0 t) ≡ 0 = omega (arith, kept_alike k 0 is t, kept_more added) in
            ap (λ w. (w || is_void k t) || are_void ks f) (sym (eq-eqb (length (kept_leaves k 0 t)) 0 no)) ∙ i.voids

        pub matched : false ≡ is_void k t → (kept after ≡ kept table → ⊥) → Going f ks r on after (children + 1)
        matched v some =
            let kept_one : length (kept_leaves k 0 t) ≡ 0 → ⊥ = λ z. some (omega (arith, kept_alike k 0 is t, kept_more added)) in
            let rest : kept_leaves_in ks on f ≡ kept_leaves_in ks (is + leaf_count_of t) f = ap (λ m. kept_leaves_in ks m f) added.passed in
            record {
              passed = omega (arith, i.passed, added.passed);
              offsets = (λ j. added.offsets j ++ rest j) ∙ append_assoc table.offsets.items (kept_leaves k is t) (kept_leaves_in ks (is + leaf_count_of t) f) ∙ i.offsets;
              voids = sym (λ j. (ne_eqb (length (kept_leaves k 0 t)) 0 kept_one j || sym v j) || are_void ks f) ∙ i.voids;
              types = ap (λ l. l ++ preorders (kept_forest ks r)) added.types ∙ append_assoc table.types.items (preorder (kept_tree k tree)) (preorders (kept_forest ks r)) ∙ i.types;
              counted = omega (arith, i.counted);
              room = omega (arith, i.room, kept_more added, kept_fits k is t);
              space = omega (arith, i.space, written_more added, kept_small k tree);
              few = omega (arith, i.few, written_more added, kept_some k tree);
            }

  -- the fields are at an end
  module _ (is : ℕ) (table : ClipTable) (children : ℕ) (i : Going empty end none is table children) where
    pub not_void : false ≡ are_void all_kept fs
    not_void = i.voids

    pub all_types : table.types.items ≡ before.types.items ++ preorders (kept_forest all_kept rs)
    all_types = sym (append-nil table.types.items) ∙ i.types

    pub all_written : written table ≡ written before + sizes (kept_forest all_kept rs)
    all_written = omega (arith, ap length all_types, length-append before.types.items (preorders (kept_forest all_kept rs)), length-preorders (kept_forest all_kept rs))

    pub all_counted : children ≡ count (kept_forest all_kept rs)
    all_counted = omega (arith, i.counted)

-- A head that was added as it was is set in its place, in front of what follows it.
placed_head : (xs ys zs ws : List TypeRecord) (r h : TypeRecord) → ys ≡ xs ++ r ∷ [] → ws ≡ ys ++ zs → set ws (length xs) h ≡ xs ++ h ∷ zs
placed_head xs ys zs ws r h a b =
    ap (λ l. set l (length xs) h) (b ∙ ap (λ l. l ++ zs) a ∙ append_assoc xs (r ∷ []) zs) ∙ set_at xs r zs h (length xs) refl

-- The head of a Struct is set last.
pub struct_added : (fs : Fields) (ks : Keeps) (rs : Forest TypeRecord) (was : ℕ) (before mid : ClipTable) (is : ℕ) (table : ClipTable) (children : ℕ) → Going fs ks rs was mid empty end none is table children
    → (r h : TypeRecord) → mid.offsets ≡ before.offsets → mid.types.items ≡ before.types.items ++ r ∷ [] → h ≡ headed_by r (kept_forest ks rs) → (after : ClipTable) → after.offsets ≡ table.offsets → after.types.items ≡ set table.types.items (written before) h
    → Added (among ks) (struct fs) (node r rs) was before is after
struct_added fs ks rs was before mid is table children i r h mo mt e after eo et =
    record {
      passed = omega (arith, i.passed);
      offsets = ap (λ o. o.items) eo ∙ sym (append-nil table.offsets.items) ∙ i.offsets ∙ ap (λ o. o.items ++ kept_leaves_in ks was fs) mo;
      types = et
          ∙ placed_head before.types.items mid.types.items (preorders (kept_forest ks rs)) table.types.items r h mt (all_types fs ks rs was mid is table children i)
          ∙ ap (λ x. before.types.items ++ x ∷ preorders (kept_forest ks rs)) e;
    }

-- and that of a list behind its item
pub list_added : (k : Keep) (t : Ty) (tree : Tree TypeRecord) (w : Wrapper) (n : Name) (b : Bool) (was : ℕ) (before mid : ClipTable) (is : ℕ) (table : ClipTable) → Added k t tree was mid is table
    → (r h : TypeRecord) → mid.offsets ≡ before.offsets → mid.types.items ≡ before.types.items ++ r ∷ [] → h ≡ headed_by r (more (kept_tree k tree) none) → (after : ClipTable) → after.offsets ≡ table.offsets → after.types.items ≡ set table.types.items (written before) h
    → Added (within k) (wrap w n b t) (node r (more tree none)) was before is after
list_added k t tree w n b was before mid is table a r h mo mt e after eo et =
    record {
      passed = a.passed;
      offsets = ap (λ o. o.items) eo ∙ a.offsets ∙ ap (λ o. o.items ++ kept_leaves k was t) mo;
      types = et
          ∙ placed_head before.types.items mid.types.items (preorder (kept_tree k tree)) table.types.items r h mt a.types
          ∙ (λ j. before.types.items ++ e j ∷ sym (append-nil (preorder (kept_tree k tree))) j);
    }
