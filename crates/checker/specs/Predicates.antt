-- Tests of nodes, by their kinds. Assumes nothing.
use Rattle.std.specs.Prelude.{Bool, true, false, ◌||◌, Some, Option}
use Rattle.rules.specs.Names.{Name}
use Rattle.rules.specs.Expressions.{is_array_function}
use Rattle.format.specs.declared.kinds.NodeKind.{NodeKind}
use Rattle.format.specs.declared.kinds.NodeKind.TheVariants.{Column, Literal, IsNull, IsNotNull, ScalarFunction}
use Rattle.format.specs.declared.kinds.LiteralKind.{LiteralKind}
use Rattle.format.specs.declared.kinds.LiteralKind.TheVariants.{Text}

-- is null or is not null
abbrev pub is_null_check : Option NodeKind → Bool
is_null_check (Some IsNull) = true
is_null_check (Some IsNotNull) = true
is_null_check _ = false

-- a scalar function, by its name, that may be asked
abbrev pub is_supported_function : Option NodeKind → Name → Bool
is_supported_function (Some ScalarFunction) f = is_array_function f
is_supported_function _ f = false

-- either of them
abbrev pub is_asked : Option NodeKind → Name → Bool
is_asked o f = is_null_check o || is_supported_function o f

abbrev pub is_column_node : Option NodeKind → Bool
is_column_node (Some Column) = true
is_column_node _ = false

abbrev pub is_text_literal : Option NodeKind → Option LiteralKind → Bool
is_text_literal (Some Literal) (Some Text) = true
is_text_literal _ l = false
