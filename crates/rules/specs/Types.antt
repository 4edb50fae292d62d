-- Types, fields and files. Assumes nothing.
use Rattle.std.specs.Prelude.{ℕ, zero, suc, ◌+◌, Bool, true, false, cond, ◌&&◌, List, [], ◌∷◌, ◌++◌, Some, None, Option, ◌==◌}
use Rattle.std.specs.Bool.{beq}
use Rattle.std.specs.Str.{bytes_eq}
use Rattle.rules.specs.Names.{Name}

-- what wraps one item: the kinds of lists, a FixedSizeList with its size, a Map with the detail by which two Maps are
-- told apart
pub data Wrapper : Type 0 where
  list : Wrapper
  large_list : Wrapper
  list_view : Wrapper
  large_list_view : Wrapper
  fixed_size_list : ℕ → Wrapper
  map : ℕ → Wrapper

-- a type: a leaf with its code; a Struct with its fields; a list or a Map with its item, which has a name and a
-- nullability as a field has
mutual
  pub data Ty : Type 0 where
    leaf : ℕ → Ty
    struct : Fields → Ty
    wrap : Wrapper → Name → Bool → Ty → Ty

  -- fields in order, each with its name, whether it may be null, and its type
  pub data Fields : Type 0 where
    empty : Fields
    field : Name → Bool → Ty → Fields → Fields

-- a file, as far as planning goes: its roots
abbrev pub File : Type 0
File = Fields

-- the codes of the leaves of a type, in preorder
abbrev mutual
  pub leaf_codes : Ty → List ℕ
  leaf_codes (leaf c) = c ∷ []
  leaf_codes (struct fs) = leaf_codes_in fs
  leaf_codes (wrap w n b t) = leaf_codes t

  pub leaf_codes_in : Fields → List ℕ
  leaf_codes_in empty = []
  leaf_codes_in (field n b t fs) = leaf_codes t ++ leaf_codes_in fs

-- how many leaves a type has: a Struct those of its fields, a list or a Map those of its item
abbrev mutual
  pub leaf_count_of : Ty → ℕ
  leaf_count_of (leaf c) = 1
  leaf_count_of (struct fs) = leaf_count_in fs
  leaf_count_of (wrap w n b t) = leaf_count_of t

  pub leaf_count_in : Fields → ℕ
  leaf_count_in empty = 0
  leaf_count_in (field n b t fs) = leaf_count_of t + leaf_count_in fs

-- a name finds the first field that bears it; k is the number of the first field
abbrev pub first_named : Name → ℕ → Fields → Option ℕ
first_named name k empty = None
first_named name k (field n b t fs) = cond (bytes_eq n name) (Some k) (first_named name (k + 1) fs)

-- the type of the first field that bears a name
abbrev pub type_named : Name → Fields → Option Ty
type_named name empty = None
type_named name (field n b t fs) = cond (bytes_eq n name) (Some t) (type_named name fs)

-- the type of the field number j; the Struct without fields where there is none
abbrev pub type_at : Fields → ℕ → Ty
type_at empty j = struct empty
type_at (field n b t fs) zero = t
type_at (field n b t fs) (suc j) = type_at fs j

-- the field number j is there and bears a name
abbrev pub bears_at : Fields → ℕ → Name → Bool
bears_at empty j name = false
bears_at (field n b t fs) zero name = bytes_eq n name
bears_at (field n b t fs) (suc j) name = bears_at fs j name

-- every kind but the leaf is nested
abbrev pub is_nested : Ty → Bool
is_nested (leaf c) = false
is_nested (struct fs) = true
is_nested (wrap w n b t) = true

abbrev pub is_map_wrapper : Wrapper → Bool
is_map_wrapper list = false
is_map_wrapper large_list = false
is_map_wrapper list_view = false
is_map_wrapper large_list_view = false
is_map_wrapper (fixed_size_list n) = false
is_map_wrapper (map d) = true

abbrev pub is_map : Ty → Bool
is_map (leaf c) = false
is_map (struct fs) = false
is_map (wrap w n b t) = is_map_wrapper w

-- the lists that can be supported: List, LargeList and FixedSizeList
abbrev pub is_list_wrapper : Wrapper → Bool
is_list_wrapper list = true
is_list_wrapper large_list = true
is_list_wrapper list_view = false
is_list_wrapper large_list_view = false
is_list_wrapper (fixed_size_list n) = true
is_list_wrapper (map d) = false

abbrev pub is_list : Ty → Bool
is_list (leaf c) = false
is_list (struct fs) = false
is_list (wrap w n b t) = is_list_wrapper w

-- a pair of List or a pair of LargeList
abbrev pub both_lists : Wrapper → Wrapper → Bool
both_lists list w = elim w [ list ↦ true | large_list ↦ false | list_view ↦ false | large_list_view ↦ false | fixed_size_list n ↦ false | map d ↦ false ]
both_lists large_list w = elim w [ list ↦ false | large_list ↦ true | list_view ↦ false | large_list_view ↦ false | fixed_size_list n ↦ false | map d ↦ false ]
both_lists list_view w = false
both_lists large_list_view w = false
both_lists (fixed_size_list n) w = false
both_lists (map d) w = false

-- a Struct, or wrapped around one at any depth
abbrev pub contains_struct : Ty → Bool
contains_struct (leaf c) = false
contains_struct (struct fs) = true
contains_struct (wrap w n b t) = contains_struct t

-- A wrapper's kind, by its number in the layout, and its detail where it uses one.
abbrev pub wrapper_kind : Wrapper → ℕ
wrapper_kind list = 3
wrapper_kind large_list = 4
wrapper_kind list_view = 5
wrapper_kind large_list_view = 6
wrapper_kind (fixed_size_list n) = 7
wrapper_kind (map d) = 8

abbrev pub wrapper_detail : Wrapper → ℕ
wrapper_detail list = 0
wrapper_detail large_list = 0
wrapper_detail list_view = 0
wrapper_detail large_list_view = 0
wrapper_detail (fixed_size_list n) = n
wrapper_detail (map d) = d

abbrev pub same_wrapper : Wrapper → Wrapper → Bool
same_wrapper v w = wrapper_kind v == wrapper_kind w && wrapper_detail v == wrapper_detail w

-- Two types are the same in every field that is used: leaf codes, wrappers with their details, and the names, by their
-- bytes, and nullability of fields and items. A type itself has no name and no nullability.
abbrev mutual
  pub same_type : Ty → Ty → Bool
  same_type (leaf c) (leaf d) = c == d
  same_type (leaf c) (struct gs) = false
  same_type (leaf c) (wrap v m e u) = false
  same_type (struct fs) (leaf d) = false
  same_type (struct fs) (struct gs) = same_fields fs gs
  same_type (struct fs) (wrap v m e u) = false
  same_type (wrap w n b t) (leaf d) = false
  same_type (wrap w n b t) (struct gs) = false
  same_type (wrap w n b t) (wrap v m e u) = same_wrapper w v && (bytes_eq n m && beq b e) && same_type t u

  pub same_fields : Fields → Fields → Bool
  same_fields empty empty = true
  same_fields empty (field m e u gs) = false
  same_fields (field n b t fs) empty = false
  same_fields (field n b t fs) (field m e u gs) = (bytes_eq n m && beq b e) && same_type t u && same_fields fs gs
