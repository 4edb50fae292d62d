-- What the kinds of the layout mean. Assumes nothing.
use Rattle.std.specs.Prelude.{ℕ, cond, Some, None, Option, ◌==◌}
use Rattle.format.specs.declared.kinds.TypeKind.{TypeKind}
use Rattle.format.specs.declared.kinds.TypeKind.TheVariants.{Leaf, Struct, List, LargeList, ListView, LargeListView, FixedSizeList, Map}
use Rattle.format.specs.declared.kinds.NodeKind.{NodeKind}
use Rattle.format.specs.declared.kinds.NodeKind.TheVariants.{Column, Literal, GetField, Cast, IsNull, IsNotNull, InputFileName, FileRowIndex, ScalarFunction, Operator}
use Rattle.format.specs.declared.kinds.LiteralKind.{LiteralKind}
use Rattle.format.specs.declared.kinds.LiteralKind.TheVariants.{Null, Text, Integer}

abbrev pub type_kind_of : ℕ → Option TypeKind
type_kind_of k =
    cond (k == 1) (Some Leaf) (cond (k == 2) (Some Struct) (cond (k == 3) (Some List) (cond (k == 4) (Some LargeList)
    (cond (k == 5) (Some ListView) (cond (k == 6) (Some LargeListView) (cond (k == 7) (Some FixedSizeList)
    (cond (k == 8) (Some Map) None)))))))

abbrev pub node_kind_of : ℕ → Option NodeKind
node_kind_of k =
    cond (k == 1) (Some Column) (cond (k == 2) (Some Literal) (cond (k == 3) (Some GetField) (cond (k == 4) (Some Cast)
    (cond (k == 5) (Some IsNull) (cond (k == 6) (Some IsNotNull) (cond (k == 7) (Some InputFileName)
    (cond (k == 8) (Some FileRowIndex) (cond (k == 9) (Some ScalarFunction) (cond (k == 10) (Some Operator) None)))))))))

abbrev pub literal_kind_of : ℕ → Option LiteralKind
literal_kind_of k = cond (k == 0) (Some Null) (cond (k == 1) (Some Text) (cond (k == 2) (Some Integer) None))
