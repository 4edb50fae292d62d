-- What is kept of a type: by access paths, and by a cast. Assumes nothing.
use Rattle.std.specs.Prelude.{ℕ, ◌+◌, Bool, true, false, cond, not, ◌&&◌, ◌||◌, List, [], ◌∷◌, ◌++◌, length, Some, None, Option, ◌==◌, nat_lt}
use Rattle.std.specs.List.{range_with_len}
use Rattle.std.specs.Str.{bytes_eq}
use Rattle.rules.specs.Names.{Name}
use Rattle.rules.specs.Types.{Ty, leaf, struct, wrap, Fields, empty, field, leaf_count_of, type_named, both_lists}

-- What is kept of a type, a term of our own: all of it; a wrapper around what is kept of its item; or a Struct with what
-- is kept of its fields, one after the other.
mutual
  pub data Keep : Type 0 where
    all : Keep
    within : Keep → Keep
    among : Keeps → Keep

  pub data Keeps : Type 0 where
    end : Keeps
    without : Keeps → Keeps
    with : Keep → Keeps → Keeps

-- the type with what is kept of it; names and nullability stay
abbrev mutual
  pub kept_type : Keep → Ty → Ty
  kept_type all t = t
  kept_type (within k) (leaf c) = leaf c
  kept_type (within k) (struct fs) = struct fs
  kept_type (within k) (wrap w n b t) = wrap w n b (kept_type k t)
  kept_type (among ks) (leaf c) = leaf c
  kept_type (among ks) (struct fs) = struct (kept_fields ks fs)
  kept_type (among ks) (wrap w n b t) = wrap w n b t

  pub kept_fields : Keeps → Fields → Fields
  kept_fields end fs = empty
  kept_fields (without ks) empty = empty
  kept_fields (without ks) (field n b t fs) = kept_fields ks fs
  kept_fields (with k ks) empty = empty
  kept_fields (with k ks) (field n b t fs) = field n b (kept_type k t) (kept_fields ks fs)

-- the numbers of the leaves that are kept, where the first leaf of the type has the number i
abbrev mutual
  pub kept_leaves : Keep → ℕ → Ty → List ℕ
  kept_leaves all i t = range_with_len i (leaf_count_of t)
  kept_leaves (within k) i (leaf c) = range_with_len i 1
  kept_leaves (within k) i (struct fs) = range_with_len i (leaf_count_of (struct fs))
  kept_leaves (within k) i (wrap w n b t) = kept_leaves k i t
  kept_leaves (among ks) i (leaf c) = range_with_len i 1
  kept_leaves (among ks) i (struct fs) = kept_leaves_in ks i fs
  kept_leaves (among ks) i (wrap w n b t) = range_with_len i (leaf_count_of t)

  pub kept_leaves_in : Keeps → ℕ → Fields → List ℕ
  kept_leaves_in end i fs = []
  kept_leaves_in (without ks) i empty = []
  kept_leaves_in (without ks) i (field n b t fs) = kept_leaves_in ks (i + leaf_count_of t) fs
  kept_leaves_in (with k ks) i empty = []
  kept_leaves_in (with k ks) i (field n b t fs) = kept_leaves k i t ++ kept_leaves_in ks (i + leaf_count_of t) fs

-- CLIPPING. What a cast to a target type needs of a physical type. In a pair of Structs each physical field meets the first
-- target field of its name; unmatched, it is dropped. Pairs of List and of LargeList go on with their items. Any other pair
-- is kept entire.
abbrev pub met : Option Ty → (Ty → Keep) → Keeps → Keeps
met None clip ks = without ks
met (Some g) clip ks = with (clip g) ks

abbrev mutual
  pub clipped : Ty → Ty → Keep
  clipped (leaf c) g = all
  clipped (struct fs) (leaf d) = all
  clipped (struct fs) (struct gs) = among (clipped_fields fs gs)
  clipped (struct fs) (wrap v m e u) = all
  clipped (wrap w n b t) (leaf d) = all
  clipped (wrap w n b t) (struct gs) = all
  clipped (wrap w n b t) (wrap v m e u) = cond (both_lists w v) (within (clipped t u)) all

  pub clipped_fields : Fields → Fields → Keeps
  clipped_fields empty gs = end
  clipped_fields (field n b t fs) gs = met (type_named n gs) (clipped t) (clipped_fields fs gs)

-- a field that is kept keeps no leaf: then the clip is void
abbrev mutual
  pub is_void : Keep → Ty → Bool
  is_void all t = false
  is_void (within k) (leaf c) = false
  is_void (within k) (struct fs) = false
  is_void (within k) (wrap w n b t) = is_void k t
  is_void (among ks) (leaf c) = false
  is_void (among ks) (struct fs) = are_void ks fs
  is_void (among ks) (wrap w n b t) = false

  pub are_void : Keeps → Fields → Bool
  are_void end fs = false
  are_void (without ks) empty = false
  are_void (without ks) (field n b t fs) = are_void ks fs
  are_void (with k ks) empty = false
  are_void (with k ks) (field n b t fs) = (length (kept_leaves k 0 t) == 0 || is_void k t) || are_void ks fs

-- how many leaves a clip keeps
abbrev pub clip_count : Ty → Ty → ℕ
clip_count t g = length (kept_leaves (clipped t g) 0 t)

-- a clip comes to something if it is not void and keeps some but not all leaves
abbrev pub is_clipped : Ty → Ty → Bool
is_clipped t g = not (is_void (clipped t g) t) && (nat_lt 0 (clip_count t g) && nat_lt (clip_count t g) (leaf_count_of t))

-- PRUNING. What access paths need of a type. A type stays where a path ends, or if it is no Struct; a Struct keeps the
-- fields that continue a path.

-- some path ends here
abbrev pub ends_here : List (List Name) → Bool
ends_here [] = false
ends_here (p ∷ ps) = elim p [ [] ↦ true | n ∷ q ↦ ends_here ps ]

-- what is left of the paths that go on by a name
abbrev pub onward : Name → List (List Name) → List (List Name)
onward n [] = []
onward n (p ∷ ps) = elim p [ [] ↦ onward n ps | m ∷ q ↦ cond (bytes_eq n m) (q ∷ onward n ps) (onward n ps) ]

abbrev pub continued : List (List Name) → Keep → Keeps → Keeps
continued [] k ks = without ks
continued (p ∷ ps) k ks = with k ks

abbrev mutual
  pub pruned : List (List Name) → Ty → Keep
  pruned ps (leaf c) = all
  pruned ps (struct fs) = cond (ends_here ps) all (among (pruned_fields ps fs))
  pruned ps (wrap w n b t) = all

  pub pruned_fields : List (List Name) → Fields → Keeps
  pruned_fields ps empty = end
  pruned_fields ps (field n b t fs) = continued (onward n ps) (pruned (onward n ps) t) (pruned_fields ps fs)

-- a path is the front of a list of parts
abbrev pub is_prefix : List Name → List Name → Bool
is_prefix [] parts = true
is_prefix (n ∷ p) parts = elim parts [ [] ↦ false | m ∷ rest ↦ bytes_eq m n && is_prefix p rest ]

abbrev pub any_prefix : List (List Name) → List Name → Bool
any_prefix [] parts = false
any_prefix (p ∷ ps) parts = is_prefix p parts || any_prefix ps parts
