-- The expressions of a collection, and their columns. Assumes nothing.
use Rattle.std.specs.Prelude.{ℕ, Bool, true, false, cond, List, [], ◌∷◌, map, length, Some, None, Option, nat_lt}
use Rattle.rules.specs.Expressions.{Expr, column, literal, get_field, cast, is_null, is_not_null, input_file_name, file_row_index, scalar_function, operator}
use Rattle.sheet.specs.declared.sheet.Sheet.{Sheet}
use Rattle.sheet.specs.Seen.{roots_in}
use Rattle.sheet.specs.SheetExpressions.{expression_at}
use Rattle.access.specs.Accesses.{present}

-- the expressions of some numbers; one that the sheet lacks is passed over
abbrev pub expressions_of : Sheet → List ℕ → List Expr
expressions_of s es = present (map (expression_at s) es)

-- whether an expression is a column whose index is not below the number of roots
abbrev pub is_unknown : ℕ → Option Expr → Bool
is_unknown n None = false
is_unknown n (Some (column name i)) = cond (nat_lt i n) false true
is_unknown n (Some (literal l)) = false
is_unknown n (Some (get_field t es)) = false
is_unknown n (Some (cast g e)) = false
is_unknown n (Some (is_null e)) = false
is_unknown n (Some (is_not_null e)) = false
is_unknown n (Some (input_file_name es)) = false
is_unknown n (Some (file_row_index es)) = false
is_unknown n (Some (scalar_function f es)) = false
is_unknown n (Some (operator f es)) = false

-- the first expression that is such a column
abbrev pub first_unknown : Sheet → List ℕ → Option ℕ
first_unknown s [] = None
first_unknown s (e ∷ es) = cond (is_unknown (length (roots_in s)) (expression_at s e)) (Some e) (first_unknown s es)
