-- What a cast does with a pair of types, told by their kinds. Assumes nothing.
use Rattle.std.specs.Prelude.{Some, Option}
use Rattle.format.specs.declared.kinds.TypeKind.{TypeKind}
use Rattle.format.specs.declared.kinds.TypeKind.TheVariants.{Struct, List, LargeList}
use Rattle.nested.specs.declared.pairs.Pair.{Pair}
use Rattle.nested.specs.declared.pairs.Pair.TheVariants.{Structs, Lists, Others}

abbrev pub pair_of : (here there : Option TypeKind) → Pair
pair_of (Some Struct) (Some Struct) = Structs
pair_of (Some List) (Some List) = Lists
pair_of (Some LargeList) (Some LargeList) = Lists
pair_of here there = Others
