-- Which records are good. Assumes nothing.
use Rattle.std.specs.Prelude.{ℕ, zero, suc, ◌+◌, ◌-◌, Bool, true, false, cond, ◌&&◌, ◌||◌, List, length, Some, None, Option, ◌==◌, nat_le, nat_lt, slice_index, slice_index_or}
use Rattle.rules.specs.Preorder.{placed}
use Rattle.rules.specs.Searches.{first_failing}
use Rattle.rules.specs.Trees.{Tree, size, levels, forest, whole, first_tree}
use Rattle.format.specs.declared.kinds.TypeKind.{TypeKind}
use Rattle.format.specs.declared.kinds.TypeKind.TheVariants.{Leaf, Struct, List as ListKind, LargeList, ListView, LargeListView, FixedSizeList, Map}
use Rattle.format.specs.declared.kinds.NodeKind.{NodeKind}
use Rattle.format.specs.declared.kinds.NodeKind.TheVariants.{Column, Literal, GetField, Cast, IsNull, IsNotNull, InputFileName, FileRowIndex, ScalarFunction, Operator}
use Rattle.format.specs.declared.kinds.LiteralKind.{LiteralKind}
use Rattle.format.specs.declared.kinds.LiteralKind.TheVariants.{Null, Text, Integer}
use Rattle.format.specs.declared.layout.Layout.{Layout}
use Rattle.format.specs.declared.records.NameRef.{NameRef}
use Rattle.format.specs.declared.records.TypeRecord.{TypeRecord}
use Rattle.format.specs.declared.records.RootRecord.{RootRecord}
use Rattle.format.specs.declared.records.LeafRecord.{LeafRecord}
use Rattle.format.specs.declared.records.ElementRecord.{ElementRecord}
use Rattle.format.specs.declared.records.NodeRecord.{NodeRecord}
use Rattle.format.specs.declared.records.ExpressionRecord.{ExpressionRecord}
use Rattle.format.specs.Kinds.{type_kind_of, node_kind_of, literal_kind_of}
use Rattle.format.specs.Records.{no_type, no_node, no_element, by_place}

-- a name is short, and lies in the section of names, which has so many bytes
abbrev pub good_name : (names : ℕ) → NameRef → Bool
good_name names n = nat_le (n.start + n.len) names && nat_le n.len 255

-- A record's own fields, with the record before it and the one behind it. A term of our own: a record is fair if its own
-- fields keep the rules, whatever lies below it.

-- a leaf has no child, a list or a Map has one; a Map's, which stands right behind it, is a Struct of two
abbrev pub type_children : Option TypeKind → ℕ → TypeRecord → Bool
type_children None n behind = false
type_children (Some Leaf) n behind = n == 0
type_children (Some Struct) n behind = true
type_children (Some ListKind) n behind = n == 1
type_children (Some LargeList) n behind = n == 1
type_children (Some ListView) n behind = n == 1
type_children (Some LargeListView) n behind = n == 1
type_children (Some FixedSizeList) n behind = n == 1
type_children (Some Map) n behind = n == 1 && (behind.kind == 2 && behind.children == 2)

abbrev pub fair_type : Layout → TypeRecord → TypeRecord → TypeRecord → Bool
fair_type l before t behind =
    type_children (type_kind_of t.kind) t.children behind && (nat_le t.nullable 1 && good_name l.names.count t.name)

abbrev pub fair_root : Layout → RootRecord → RootRecord → RootRecord → Bool
fair_root l before r behind = nat_lt r.type_place l.types.count

-- leaf roots never fall; a leaf without parts does not use its first part
abbrev pub fair_leaf : Layout → LeafRecord → LeafRecord → LeafRecord → Bool
fair_leaf l before r behind =
    nat_lt r.root l.roots.count && (nat_le before.root r.root
    && (r.parts == 0 || nat_le (r.first_part + r.parts) l.parts.count))

abbrev pub fair_part : Layout → NameRef → NameRef → NameRef → Bool
fair_part l before n behind = good_name l.names.count n

abbrev pub fair_element : Layout → ElementRecord → ElementRecord → ElementRecord → Bool
fair_element l before e behind = good_name l.names.count e.name

abbrev pub node_children : Option NodeKind → ℕ → Bool
node_children None n = false
node_children (Some Column) n = n == 0
node_children (Some Literal) n = n == 0
node_children (Some GetField) n = nat_le n 8
node_children (Some Cast) n = n == 1
node_children (Some IsNull) n = n == 1
node_children (Some IsNotNull) n = n == 1
node_children (Some InputFileName) n = nat_le n 8
node_children (Some FileRowIndex) n = nat_le n 8
node_children (Some ScalarFunction) n = nat_le n 8
node_children (Some Operator) n = nat_le n 8

abbrev pub literal_fields : Option LiteralKind → ℕ → NameRef → Bool
literal_fields None names n = false
literal_fields (Some Null) names n = true
literal_fields (Some Text) names n = good_name names n
literal_fields (Some Integer) names n = true

-- the fields that a node of this kind uses
abbrev pub node_fields : Option NodeKind → Layout → NodeRecord → Bool
node_fields None l r = false
node_fields (Some Column) l r = good_name l.names.count r.name
node_fields (Some Literal) l r = literal_fields (literal_kind_of r.literal_kind) l.names.count r.name
node_fields (Some GetField) l r = nat_lt r.type_place l.types.count
node_fields (Some Cast) l r = nat_lt r.type_place l.types.count
node_fields (Some IsNull) l r = true
node_fields (Some IsNotNull) l r = true
node_fields (Some InputFileName) l r = true
node_fields (Some FileRowIndex) l r = true
node_fields (Some ScalarFunction) l r = good_name l.names.count r.name
node_fields (Some Operator) l r = good_name l.names.count r.name

abbrev pub fair_node : Layout → NodeRecord → NodeRecord → NodeRecord → Bool
fair_node l before r behind = node_children (node_kind_of r.kind) r.children && node_fields (node_kind_of r.kind) l r

abbrev pub fair_expression : Layout → ExpressionRecord → ExpressionRecord → ExpressionRecord → Bool
fair_expression l before e behind = nat_lt e.node_place l.nodes.count

-- the record before a place
abbrev pub previous : {R : Type 0} → R → List R → ℕ → R
previous blank rs zero = blank
previous blank rs (suc p) = slice_index_or rs p blank

-- the record at a place is fair
abbrev pub fair_at : {R : Type 0} → (R → R → R → Bool) → R → List R → ℕ → Bool
fair_at fair blank rs p = fair (previous blank rs p) (slice_index_or rs p blank) (slice_index_or rs (p + 1) blank)

-- the first bad record of a section whose records are judged by their own fields
abbrev pub first_unfair : {R : Type 0} → (R → R → R → Bool) → R → List R → Option ℕ
first_unfair fair blank rs = first_failing (fair_at fair blank rs) 0 (length rs)

-- types and nodes are preorder records, at most 32 levels deep
abbrev pub good_type : Layout → List TypeRecord → ℕ → Bool
good_type l ts p =
    fair_at (fair_type l) no_type ts p && placed (by_place (λ t. t.children) no_type ts) (by_place (λ t. t.span) no_type ts) (length ts) 32 p

abbrev pub good_node : Layout → List NodeRecord → ℕ → Bool
good_node l ns p =
    fair_at (fair_node l) no_node ns p && placed (by_place (λ t. t.children) no_node ns) (by_place (λ t. t.span) no_node ns) (length ns) 32 p

abbrev pub first_bad_type : Layout → List TypeRecord → Option ℕ
first_bad_type l ts = first_failing (good_type l ts) 0 (length ts)

abbrev pub first_bad_node : Layout → List NodeRecord → Option ℕ
first_bad_node l ns = first_failing (good_node l ns) 0 (length ns)

-- Elements, if any, are one preorder tree, at most 32 levels deep, each but the top with a good name. Where the tree of
-- element 0 is not whole, element 0 is bad; where it ends early, the element behind it is.
abbrev pub bad_in_tree : Layout → List ElementRecord → Tree ElementRecord → Option ℕ
bad_in_tree l es t =
    cond (whole (λ e. e.children) t)
    (cond (nat_lt (size t) (length es)) (Some (size t))
    (first_failing (λ p. fair_at (fair_element l) no_element es p && nat_le (slice_index (levels 1 t) p) 32) 1 (length es - 1)))
    (Some 0)

-- where a whole tree ends
abbrev pub whole_end : Option (Tree ElementRecord) → Option ℕ
whole_end None = None
whole_end (Some t) = cond (whole (λ e. e.children) t) (Some (size t)) None

abbrev pub bad_in : Layout → List ElementRecord → Option (Tree ElementRecord) → Option ℕ
bad_in l es None = None
bad_in l es (Some t) = bad_in_tree l es t

abbrev pub first_bad_element : Layout → List ElementRecord → Option ℕ
first_bad_element l es = bad_in l es (first_tree (forest (λ e. e.children) es))
