-- The format of a sheet: the tables that its bytes hold, and which fault they have. Assumes nothing.
use Rattle.std.specs.Prelude.{◌≡◌, ℕ, ◌<◌, ◌≤◌, Bool, true, List, [], ◌∷◌, Some, None, Ok, Err, Option, Result, slice_index}
use Rattle.std.specs.Option.{option_map}
use Rattle.rules.specs.Searches.{or_else, first_found}
use Rattle.format.specs.declared.fault.Fault.{Fault}
use Rattle.format.specs.declared.fault.Fault.TheVariants.{BadRecord}
use Rattle.format.specs.declared.layout.Layout.{Layout}
use Rattle.format.specs.declared.records.NameRef.{NameRef}
use Rattle.format.specs.declared.records.TypeRecord.{TypeRecord}
use Rattle.format.specs.declared.records.RootRecord.{RootRecord}
use Rattle.format.specs.declared.records.LeafRecord.{LeafRecord}
use Rattle.format.specs.declared.records.ElementRecord.{ElementRecord}
use Rattle.format.specs.declared.records.NodeRecord.{NodeRecord}
use Rattle.format.specs.declared.records.ExpressionRecord.{ExpressionRecord}
use Rattle.format.specs.Good.{first_unfair, first_bad_type, first_bad_node, first_bad_element, fair_root, fair_leaf, fair_part, fair_expression}
use Rattle.format.specs.Layouts.{layout_of, section_of, widths, limits, layout_fault}
use Rattle.format.specs.Records.{table, part, Inside, name_from, type_from, root_from, leaf_from, element_from, node_from, expression_from, no_name, no_root, no_leaf, no_expression}

-- the records of each section
abbrev pub names_at : Layout → List ℕ → List ℕ
names_at l bs = part bs l.names.start l.names.count

abbrev pub types_at : Layout → List ℕ → List TypeRecord
types_at l bs = table 12 type_from bs l.types.start l.types.count

abbrev pub roots_at : Layout → List ℕ → List RootRecord
roots_at l bs = table 2 root_from bs l.roots.start l.roots.count

abbrev pub leaves_at : Layout → List ℕ → List LeafRecord
leaves_at l bs = table 6 leaf_from bs l.leaves.start l.leaves.count

abbrev pub parts_at : Layout → List ℕ → List NameRef
parts_at l bs = table 4 name_from bs l.parts.start l.parts.count

abbrev pub elements_at : Layout → List ℕ → List ElementRecord
elements_at l bs = table 6 element_from bs l.elements.start l.elements.count

abbrev pub nodes_at : Layout → List ℕ → List NodeRecord
nodes_at l bs = table 24 node_from bs l.nodes.start l.nodes.count

abbrev pub expressions_at : Layout → List ℕ → List ExpressionRecord
expressions_at l bs = table 2 expression_from bs l.expressions.start l.expressions.count

-- the sections lie inside so many bytes, and have few enough records
abbrev pub Laid : Layout → ℕ → Type 0
Laid l n = (k : ℕ) → k < 8 → Inside (slice_index widths k) (section_of l k).count (section_of l k).start n

abbrev pub Few : Layout → Type 0
Few l = (k : ℕ) → k < 8 → (section_of l k).count ≤ slice_index limits k

-- a test passes at each of the first n places
abbrev pub Each : ℕ → (ℕ → Bool) → Type 0
Each n ok = (p : ℕ) → p < n → ok p ≡ true

-- the first bad record, section by section; no byte of the names is bad
abbrev pub record_fault : Layout → List ℕ → Option Fault
record_fault l bs = first_found (
    option_map (BadRecord 2) (first_bad_type l (types_at l bs))
    ∷ option_map (BadRecord 3) (first_unfair (fair_root l) no_root (roots_at l bs))
    ∷ option_map (BadRecord 4) (first_unfair (fair_leaf l) no_leaf (leaves_at l bs))
    ∷ option_map (BadRecord 5) (first_unfair (fair_part l) no_name (parts_at l bs))
    ∷ option_map (BadRecord 6) (first_bad_element l (elements_at l bs))
    ∷ option_map (BadRecord 7) (first_bad_node l (nodes_at l bs))
    ∷ option_map (BadRecord 8) (first_unfair (fair_expression l) no_expression (expressions_at l bs))
    ∷ [])

-- the fault of bytes: the first of the header's, or the first bad record
abbrev pub fault_of : List ℕ → Option Fault
fault_of bs = or_else (layout_fault bs) (record_fault (layout_of bs) bs)

-- what a sheet holds
pub record Tables : Type 0 where
  pub names : List ℕ
  pub types : List TypeRecord
  pub roots : List RootRecord
  pub leaves : List LeafRecord
  pub parts : List NameRef
  pub elements : List ElementRecord
  pub nodes : List NodeRecord
  pub expressions : List ExpressionRecord

abbrev pub tables_at : Layout → List ℕ → Tables
tables_at l bs = record {
  names = names_at l bs;
  types = types_at l bs;
  roots = roots_at l bs;
  leaves = leaves_at l bs;
  parts = parts_at l bs;
  elements = elements_at l bs;
  nodes = nodes_at l bs;
  expressions = expressions_at l bs;
}

-- the answer of opening: the tables, or the fault with the bytes
abbrev pub answer : List ℕ → Option Fault → Result Tables (Fault × List ℕ)
answer bs None = Ok (tables_at (layout_of bs) bs)
answer bs (Some f) = Err (f, bs)

abbrev pub opened : List ℕ → Result Tables (Fault × List ℕ)
opened bs = answer bs (fault_of bs)
