-- Expressions: ten kinds of nodes. Assumes nothing.
use Rattle.std.specs.Prelude.{ℕ, Bool, true, false, ◌||◌, List, [], ◌∷◌, ◌++◌, ℤ, Some, None, codes, Option}
use Rattle.std.specs.Option.{option_map}
use Rattle.std.specs.Str.{bytes_eq}
use Rattle.rules.specs.Names.{Name}
use Rattle.rules.specs.Types.{Ty}

pub data Literal : Type 0 where
  null : Literal
  text : Name → Literal
  integer : ℤ → Literal

mutual
  pub data Expr : Type 0 where
    -- a column has a name and an index among the roots, which need not agree
    column : Name → ℕ → Expr
    literal : Literal → Expr
    -- get_field with the type that it is said to return
    get_field : Ty → Exprs → Expr
    cast : Ty → Expr → Expr
    is_null : Expr → Expr
    is_not_null : Expr → Expr
    input_file_name : Exprs → Expr
    file_row_index : Exprs → Expr
    scalar_function : Name → Exprs → Expr
    operator : Name → Exprs → Expr

  pub data Exprs : Type 0 where
    done : Exprs
    arg : Expr → Exprs → Exprs

-- a column's name
abbrev pub name_of_column : Expr → Option Name
name_of_column (column n i) = Some n
name_of_column (literal l) = None
name_of_column (get_field t es) = None
name_of_column (cast g e) = None
name_of_column (is_null e) = None
name_of_column (is_not_null e) = None
name_of_column (input_file_name es) = None
name_of_column (file_row_index es) = None
name_of_column (scalar_function f es) = None
name_of_column (operator f es) = None

abbrev pub is_column : Expr → Bool
is_column (column n i) = true
is_column (literal l) = false
is_column (get_field t es) = false
is_column (cast g e) = false
is_column (is_null e) = false
is_column (is_not_null e) = false
is_column (input_file_name es) = false
is_column (file_row_index es) = false
is_column (scalar_function f es) = false
is_column (operator f es) = false

abbrev pub text_of_literal : Literal → Option Name
text_of_literal null = None
text_of_literal (text n) = Some n
text_of_literal (integer k) = None

-- the text of a text literal
abbrev pub literal_text : Expr → Option Name
literal_text (column n i) = None
literal_text (literal l) = text_of_literal l
literal_text (get_field t es) = None
literal_text (cast g e) = None
literal_text (is_null e) = None
literal_text (is_not_null e) = None
literal_text (input_file_name es) = None
literal_text (file_row_index es) = None
literal_text (scalar_function f es) = None
literal_text (operator f es) = None

abbrev pub before : Option Name → Option (List Name) → Option (List Name)
before None p = None
before (Some n) p = option_map (λ q. n ∷ q) p

-- the path that arguments spell, if all are text literals
abbrev pub path_of : Exprs → Option (List Name)
path_of done = Some []
path_of (arg e es) = before (literal_text e) (path_of es)

-- all columns of an expression, in order, with name and index
abbrev mutual
  pub columns_of_expr : Expr → List (Name × ℕ)
  columns_of_expr (column n i) = (n, i) ∷ []
  columns_of_expr (literal l) = []
  columns_of_expr (get_field t es) = columns_of_exprs es
  columns_of_expr (cast g e) = columns_of_expr e
  columns_of_expr (is_null e) = columns_of_expr e
  columns_of_expr (is_not_null e) = columns_of_expr e
  columns_of_expr (input_file_name es) = columns_of_exprs es
  columns_of_expr (file_row_index es) = columns_of_exprs es
  columns_of_expr (scalar_function f es) = columns_of_exprs es
  columns_of_expr (operator f es) = columns_of_exprs es

  pub columns_of_exprs : Exprs → List (Name × ℕ)
  columns_of_exprs done = []
  columns_of_exprs (arg e es) = columns_of_expr e ++ columns_of_exprs es

-- the functions that a filter may ask of a list
abbrev pub is_array_function : Name → Bool
is_array_function f =
    bytes_eq f (codes "array_has") || (bytes_eq f (codes "array_has_all") || bytes_eq f (codes "array_has_any"))

-- is null, is not null or such a function stands somewhere in the expression
abbrev mutual
  pub has_list_predicate : Expr → Bool
  has_list_predicate (column n i) = false
  has_list_predicate (literal l) = false
  has_list_predicate (get_field t es) = have_list_predicate es
  has_list_predicate (cast g e) = has_list_predicate e
  has_list_predicate (is_null e) = true
  has_list_predicate (is_not_null e) = true
  has_list_predicate (input_file_name es) = have_list_predicate es
  has_list_predicate (file_row_index es) = have_list_predicate es
  has_list_predicate (scalar_function f es) = is_array_function f || have_list_predicate es
  has_list_predicate (operator f es) = have_list_predicate es

  pub have_list_predicate : Exprs → Bool
  have_list_predicate done = false
  have_list_predicate (arg e es) = has_list_predicate e || have_list_predicate es
