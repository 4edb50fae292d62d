-- The records of a sheet, as they stand in its bytes. Assumes nothing.
use Rattle.std.specs.Prelude.{ℕ, ◌+◌, ◌*◌, ◌<◌, ◌≤◌, List, map, take, drop, pos, slice_index, slice_index_or}
use Rattle.std.specs.List.{range_with_len}
use Rattle.format.specs.declared.records.NameRef.{NameRef}
use Rattle.format.specs.declared.records.TypeRecord.{TypeRecord}
use Rattle.format.specs.declared.records.RootRecord.{RootRecord}
use Rattle.format.specs.declared.records.LeafRecord.{LeafRecord}
use Rattle.format.specs.declared.records.ElementRecord.{ElementRecord}
use Rattle.format.specs.declared.records.NodeRecord.{NodeRecord}
use Rattle.format.specs.declared.records.ExpressionRecord.{ExpressionRecord}
use Rattle.format.specs.Bytes.{u16_at, i64_at}

abbrev pub name_from : List ℕ → ℕ → NameRef
name_from bs at = record { start = u16_at bs at; len = u16_at bs (at + 2) }

abbrev pub type_from : List ℕ → ℕ → TypeRecord
type_from bs at = record {
  kind = slice_index bs at;
  nullable = slice_index bs (at + 1);
  detail = u16_at bs (at + 2);
  children = u16_at bs (at + 4);
  span = u16_at bs (at + 6);
  name = name_from bs (at + 8);
}

abbrev pub root_from : List ℕ → ℕ → RootRecord
root_from bs at = record { type_place = u16_at bs at }

abbrev pub leaf_from : List ℕ → ℕ → LeafRecord
leaf_from bs at = record { root = u16_at bs at; first_part = u16_at bs (at + 2); parts = u16_at bs (at + 4) }

abbrev pub element_from : List ℕ → ℕ → ElementRecord
element_from bs at = record { children = u16_at bs at; name = name_from bs (at + 2) }

abbrev pub node_from : List ℕ → ℕ → NodeRecord
node_from bs at = record {
  kind = slice_index bs at;
  literal_kind = slice_index bs (at + 1);
  children = u16_at bs (at + 2);
  span = u16_at bs (at + 4);
  name = name_from bs (at + 6);
  index = u16_at bs (at + 10);
  type_place = u16_at bs (at + 12);
  spare = u16_at bs (at + 14);
  value = i64_at bs (at + 16);
}

abbrev pub expression_from : List ℕ → ℕ → ExpressionRecord
expression_from bs at = record { node_place = u16_at bs at }

-- what is read behind the end of a section
abbrev pub no_name : NameRef
no_name = record { start = 0; len = 0 }

abbrev pub no_type : TypeRecord
no_type = record { kind = 0; nullable = 0; detail = 0; children = 0; span = 0; name = no_name }

abbrev pub no_root : RootRecord
no_root = record { type_place = 0 }

abbrev pub no_leaf : LeafRecord
no_leaf = record { root = 0; first_part = 0; parts = 0 }

abbrev pub no_element : ElementRecord
no_element = record { children = 0; name = no_name }

abbrev pub no_node : NodeRecord
no_node = record {
  kind = 0;
  literal_kind = 0;
  children = 0;
  span = 0;
  name = no_name;
  index = 0;
  type_place = 0;
  spare = 0;
  value = pos 0;
}

abbrev pub no_expression : ExpressionRecord
no_expression = record { node_place = 0 }

-- the bytes of a name
abbrev pub name_bytes : List ℕ → NameRef → List ℕ
name_bytes names n = take n.len (drop n.start names)

-- the records of a section, each of so many bytes
unfoldable pub table : {R : Type 0} → (width : ℕ) → (List ℕ → ℕ → R) → List ℕ → (start count : ℕ) → List R
table width from bs start count = map (λ k. from bs (start + width * k)) (range_with_len 0 count)

-- a field of the records of a table, by place
abbrev pub by_place : {R : Type 0} → (R → ℕ) → R → List R → ℕ → ℕ
by_place field_of blank rs p = field_of (slice_index_or rs p blank)

-- the bytes of the section of names
abbrev pub part : List ℕ → (start count : ℕ) → List ℕ
part bs start count = take count (drop start bs)

-- so many records of so many bytes, if any, lie inside the bytes
abbrev pub Inside : (width count start bytes : ℕ) → Type 0
Inside width count start bytes = 0 < count → start + width * count ≤ bytes
