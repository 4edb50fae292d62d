-- What a step of a clip leaves. Assumes nothing.
use Rattle.std.specs.Prelude.{◌≡◌, ℕ, ◌+◌, ◌++◌}
use Rattle.rules.specs.Keeping.{Keep, kept_leaves}
use Rattle.rules.specs.Trees.{Tree, preorder}
use Rattle.rules.specs.Types.{Ty, leaf_count_of}
use Rattle.format.specs.declared.records.TypeRecord.{TypeRecord}
use Rattle.sheet.specs.KeptTrees.{kept_tree}
use Rattle.nested.specs.declared.tables.ClipTable.{ClipTable}

-- A type was passed, and what is kept of it was added to a table: the numbers of its leaves, and the records of its tree.
pub record Added (k : Keep) (t : Ty) (tree : Tree TypeRecord) (was : ℕ) (before : ClipTable) (is : ℕ) (after : ClipTable) : Type 0 where
  pub passed : is ≡ was + leaf_count_of t
  pub offsets : after.offsets.items ≡ before.offsets.items ++ kept_leaves k was t
  pub types : after.types.items ≡ before.types.items ++ preorder (kept_tree k tree)

-- a head above other children than before
abbrev pub head_of : TypeRecord → (children span : ℕ) → TypeRecord
head_of r children span = record { kind = r.kind; nullable = r.nullable; detail = r.detail; children = children; span = span; name = r.name }
