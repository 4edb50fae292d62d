-- The trees that an opened sheet stands for. Assumes nothing.
use Rattle.std.specs.Prelude.{ℕ, ◌<◌, Bool, List, [], ◌∷◌, map, length, Some, None, Option, ◌==◌, slice_index_or}
use Rattle.rules.specs.Names.{Name}
use Rattle.rules.specs.Preorder.{tree_at, Stands}
use Rattle.rules.specs.Trees.{Tree, node, Forest, none, more, label, first_tree, forest}
use Rattle.rules.specs.Types.{Wrapper, list, large_list, list_view, large_list_view, fixed_size_list, map as map_of, Ty, leaf, struct, wrap, Fields, empty, field, File}
use Rattle.format.specs.declared.kinds.TypeKind.{TypeKind}
use Rattle.format.specs.declared.kinds.TypeKind.TheVariants.{Leaf, Struct, List as ListKind, LargeList, ListView, LargeListView, FixedSizeList, Map}
use Rattle.format.specs.declared.records.TypeRecord.{TypeRecord}
use Rattle.format.specs.declared.records.NodeRecord.{NodeRecord}
use Rattle.format.specs.declared.records.ElementRecord.{ElementRecord}
use Rattle.sheet.specs.declared.sheet.Sheet.{Sheet}
use Rattle.format.specs.Kinds.{type_kind_of}
use Rattle.format.specs.Records.{name_bytes, no_type, no_node, no_root}
use Rattle.sheet.specs.Seen.{names_in, types_in, roots_in, nodes_in, elements_in}

-- the tree of types and the tree of nodes at a place
abbrev pub type_tree : Sheet → ℕ → Tree TypeRecord
type_tree s = tree_at (λ t. t.children) (λ t. t.span) no_type (types_in s)

abbrev pub node_tree : Sheet → ℕ → Tree NodeRecord
node_tree s = tree_at (λ n. n.children) (λ n. n.span) no_node (nodes_in s)

-- the tree of elements, if there are any
abbrev pub element_tree : Sheet → Option (Tree ElementRecord)
element_tree s = first_tree (forest (λ e. e.children) (elements_in s))

-- a tree of at most 32 levels stands at each place
abbrev pub TreesStand : Sheet → Type 0
TreesStand s =
    ((p : ℕ) → p < length (types_in s) → Stands (λ t. t.children) (λ t. t.span) (types_in s) p (type_tree s p) 32)
    × ((p : ℕ) → p < length (nodes_in s) → Stands (λ n. n.children) (λ n. n.span) (nodes_in s) p (node_tree s p) 32)

-- The type that a tree of records stands for. A list or a Map without an item, which no sheet has, is the Struct without
-- fields.
module _ (names : List ℕ) where
  abbrev pub is_nullable : TypeRecord → Bool
  is_nullable t = t.nullable == 1

  abbrev pub wrapped : Wrapper → Fields → Ty
  wrapped w empty = struct empty
  wrapped w (field n b t fs) = wrap w n b t

  abbrev pub by_kind : Option TypeKind → ℕ → Fields → Ty
  by_kind None detail fs = struct empty
  by_kind (Some Leaf) detail fs = leaf detail
  by_kind (Some Struct) detail fs = struct fs
  by_kind (Some ListKind) detail fs = wrapped list fs
  by_kind (Some LargeList) detail fs = wrapped large_list fs
  by_kind (Some ListView) detail fs = wrapped list_view fs
  by_kind (Some LargeListView) detail fs = wrapped large_list_view fs
  by_kind (Some FixedSizeList) detail fs = wrapped (fixed_size_list detail) fs
  by_kind (Some Map) detail fs = wrapped (map_of detail) fs

  abbrev mutual
    pub type_of : Tree TypeRecord → Ty
    type_of (node t f) = by_kind (type_kind_of t.kind) t.detail (fields_of f)

    pub fields_of : Forest TypeRecord → Fields
    fields_of none = empty
    fields_of (more t f) = field (name_bytes names (label t).name) (is_nullable (label t)) (type_of t) (fields_of f)

  -- one field behind the other
  abbrev pub file_from : List (Tree TypeRecord) → File
  file_from [] = empty
  file_from (t ∷ ts) = field (name_bytes names (label t).name) (is_nullable (label t)) (type_of t) (file_from ts)

-- the name of a root
abbrev pub root_name : Sheet → ℕ → Name
root_name s r = name_bytes (names_in s) (slice_index_or (types_in s) (slice_index_or (roots_in s) r no_root).type_place no_type).name

-- the trees of the roots, and the file that they are
abbrev pub root_trees : Sheet → List (Tree TypeRecord)
root_trees s = map (λ r. type_tree s r.type_place) (roots_in s)

abbrev pub file_in : Sheet → File
file_in s = file_from (names_in s) (root_trees s)
