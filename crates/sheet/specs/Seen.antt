-- A sheet, and the answer of opening one, with their tables seen as lists. Assumes nothing.
use Rattle.std.specs.Prelude.{ℕ, List, Ok, Err, vec_items, Result}
use Rattle.format.specs.declared.fault.Fault.{Fault}
use Rattle.format.specs.declared.records.NameRef.{NameRef}
use Rattle.format.specs.declared.records.TypeRecord.{TypeRecord}
use Rattle.format.specs.declared.records.RootRecord.{RootRecord}
use Rattle.format.specs.declared.records.LeafRecord.{LeafRecord}
use Rattle.format.specs.declared.records.ElementRecord.{ElementRecord}
use Rattle.format.specs.declared.records.NodeRecord.{NodeRecord}
use Rattle.format.specs.declared.records.ExpressionRecord.{ExpressionRecord}
use Rattle.format.specs.declared.layout.Layout.{Layout}
use Rattle.format.specs.declared.layout.Section.{Section}
use Rattle.format.specs.Records.{table}
use Rattle.sheet.specs.declared.sheet.Sheet.{Sheet}
use Rattle.sheet.specs.declared.sheet.Unopened.{Unopened}
use Rattle.format.specs.Format.{Tables, tables_at, names_at, types_at, roots_at, leaves_at, parts_at, elements_at, nodes_at, expressions_at}

abbrev pub names_in : Sheet → List ℕ
names_in s = names_at s.layout (vec_items s.bytes)

-- the records of a kind, from their section
abbrev pub records_in : {R : Type 0} → (width : ℕ) → (List ℕ → ℕ → R) → (Layout → Section) → Sheet → List R
records_in width from section_of s = table width from (vec_items s.bytes) (section_of s.layout).start (section_of s.layout).count

abbrev pub types_in : Sheet → List TypeRecord
types_in s = types_at s.layout (vec_items s.bytes)

abbrev pub roots_in : Sheet → List RootRecord
roots_in s = roots_at s.layout (vec_items s.bytes)

abbrev pub leaves_in : Sheet → List LeafRecord
leaves_in s = leaves_at s.layout (vec_items s.bytes)

abbrev pub parts_in : Sheet → List NameRef
parts_in s = parts_at s.layout (vec_items s.bytes)

abbrev pub elements_in : Sheet → List ElementRecord
elements_in s = elements_at s.layout (vec_items s.bytes)

abbrev pub nodes_in : Sheet → List NodeRecord
nodes_in s = nodes_at s.layout (vec_items s.bytes)

abbrev pub expressions_in : Sheet → List ExpressionRecord
expressions_in s = expressions_at s.layout (vec_items s.bytes)

abbrev pub seen : Result Sheet Unopened → Result Tables (Fault × List ℕ)
seen (Ok s) = Ok (tables_at s.layout (vec_items s.bytes))
seen (Err u) = Err (u.fault, vec_items u.bytes)
