-- Records of zeros alone are the blank ones. Assumes nothing.
use Rattle.std.specs.Prelude.{◌≡◌, pos}
use Rattle.format.specs.declared.records.NameRef.{NameRef}
use Rattle.format.specs.declared.records.TypeRecord.{TypeRecord}
use Rattle.format.specs.declared.records.RootRecord.{RootRecord}
use Rattle.format.specs.declared.records.LeafRecord.{LeafRecord}
use Rattle.format.specs.declared.records.ElementRecord.{ElementRecord}
use Rattle.format.specs.declared.records.NodeRecord.{NodeRecord}
use Rattle.format.specs.declared.records.ExpressionRecord.{ExpressionRecord}
use Rattle.format.specs.Records.{no_name, no_type, no_root, no_leaf, no_element, no_node, no_expression}

pub zero_name : (r : NameRef) → (r.start ≡ 0) × (r.len ≡ 0) → r ≡ no_name
zero_name r e = λ i. record { start = e.0 i; len = e.1 i }

pub zero_type : (r : TypeRecord) → (r.kind ≡ 0) × ((r.nullable ≡ 0) × ((r.detail ≡ 0) × ((r.children ≡ 0) × ((r.span ≡ 0) × ((r.name.start ≡ 0) × (r.name.len ≡ 0)))))) → r ≡ no_type
zero_type r e = λ i. record { kind = e.0 i; nullable = e.1.0 i; detail = e.1.1.0 i; children = e.1.1.1.0 i; span = e.1.1.1.1.0 i; name = zero_name r.name e.1.1.1.1.1 i }

pub zero_root : (r : RootRecord) → r.type_place ≡ 0 → r ≡ no_root
zero_root r e = λ i. record { type_place = e i }

pub zero_leaf : (r : LeafRecord) → (r.root ≡ 0) × ((r.first_part ≡ 0) × (r.parts ≡ 0)) → r ≡ no_leaf
zero_leaf r e = λ i. record { root = e.0 i; first_part = e.1.0 i; parts = e.1.1 i }

pub zero_element : (r : ElementRecord) → (r.children ≡ 0) × ((r.name.start ≡ 0) × (r.name.len ≡ 0)) → r ≡ no_element
zero_element r e = λ i. record { children = e.0 i; name = zero_name r.name e.1 i }

pub zero_node : (r : NodeRecord) → (r.kind ≡ 0) × ((r.literal_kind ≡ 0) × ((r.children ≡ 0) × ((r.span ≡ 0) × (((r.name.start ≡ 0) × (r.name.len ≡ 0)) × ((r.index ≡ 0) × ((r.type_place ≡ 0) × ((r.spare ≡ 0) × (r.value ≡ pos 0)))))))) → r ≡ no_node
zero_node r e = λ i. record { kind = e.0 i; literal_kind = e.1.0 i; children = e.1.1.0 i; span = e.1.1.1.0 i; name = zero_name r.name e.1.1.1.1.0 i; index = e.1.1.1.1.1.0 i; type_place = e.1.1.1.1.1.1.0 i; spare = e.1.1.1.1.1.1.1.0 i; value = e.1.1.1.1.1.1.1.1 i }

pub zero_expression : (r : ExpressionRecord) → r.node_place ≡ 0 → r ≡ no_expression
zero_expression r e = λ i. record { node_place = e i }
