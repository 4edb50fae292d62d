-- The expressions that an opened sheet stands for. Assumes nothing.
use Rattle.std.specs.Prelude.{ℕ, cond, length, Some, None, Option, nat_lt, slice_index_or}
use Rattle.rules.specs.Expressions.{Literal, null, text, integer, Expr, column, literal, get_field, cast, is_null, is_not_null, input_file_name, file_row_index, scalar_function, operator, Exprs, done, arg}
use Rattle.rules.specs.Trees.{Tree, node, Forest, none, more}
use Rattle.rules.specs.Types.{Ty}
use Rattle.format.specs.declared.kinds.NodeKind.{NodeKind}
use Rattle.format.specs.declared.kinds.NodeKind.TheVariants.{Column, Literal as LiteralNode, GetField, Cast, IsNull, IsNotNull, InputFileName, FileRowIndex, ScalarFunction, Operator}
use Rattle.format.specs.declared.kinds.LiteralKind.{LiteralKind}
use Rattle.format.specs.declared.kinds.LiteralKind.TheVariants.{Null, Text, Integer}
use Rattle.format.specs.declared.records.NodeRecord.{NodeRecord}
use Rattle.format.specs.Kinds.{node_kind_of, literal_kind_of}
use Rattle.format.specs.Records.{name_bytes, no_expression}
use Rattle.sheet.specs.declared.sheet.Sheet.{Sheet}
use Rattle.sheet.specs.Seen.{names_in, expressions_in}
use Rattle.sheet.specs.SheetTrees.{type_tree, node_tree, type_of}

module _ (s : Sheet) where
  -- the type at a place
  abbrev pub type_at_place : ℕ → Ty
  type_at_place p = type_of (names_in s) (type_tree s p)

  -- a cast, is null or is not null of its one child; without it, which no sheet has, the null literal
  abbrev pub of_one : (Expr → Expr) → Exprs → Expr
  of_one make done = literal null
  of_one make (arg e es) = make e

  abbrev pub literal_of : Option LiteralKind → NodeRecord → Literal
  literal_of None r = null
  literal_of (Some Null) r = null
  literal_of (Some Text) r = text (name_bytes (names_in s) r.name)
  literal_of (Some Integer) r = integer r.value

  abbrev pub by_node_kind : Option NodeKind → NodeRecord → Exprs → Expr
  by_node_kind None r es = literal null
  by_node_kind (Some Column) r es = column (name_bytes (names_in s) r.name) r.index
  by_node_kind (Some LiteralNode) r es = literal (literal_of (literal_kind_of r.literal_kind) r)
  by_node_kind (Some GetField) r es = get_field (type_at_place r.type_place) es
  by_node_kind (Some Cast) r es = of_one (cast (type_at_place r.type_place)) es
  by_node_kind (Some IsNull) r es = of_one is_null es
  by_node_kind (Some IsNotNull) r es = of_one is_not_null es
  by_node_kind (Some InputFileName) r es = input_file_name es
  by_node_kind (Some FileRowIndex) r es = file_row_index es
  by_node_kind (Some ScalarFunction) r es = scalar_function (name_bytes (names_in s) r.name) es
  by_node_kind (Some Operator) r es = operator (name_bytes (names_in s) r.name) es

  -- the expression that a tree of records stands for
  abbrev mutual
    pub expr_of : Tree NodeRecord → Expr
    expr_of (node r f) = by_node_kind (node_kind_of r.kind) r (exprs_of f)

    pub exprs_of : Forest NodeRecord → Exprs
    exprs_of none = done
    exprs_of (more t f) = arg (expr_of t) (exprs_of f)

  -- the expression whose top node is at a place
  abbrev pub expr_at : ℕ → Expr
  expr_at p = expr_of (node_tree s p)

  -- the expression of a number, if the sheet has it
  abbrev pub expression_at : ℕ → Option Expr
  expression_at e =
      cond (nat_lt e (length (expressions_in s))) (Some (expr_at (slice_index_or (expressions_in s) e no_expression).node_place)) None
