-- What the visit of one node comes to. Assumes nothing.
use Rattle.std.specs.Prelude.{◌≡◌, ℕ, ◌+◌, ◌<◌, ◌≤◌, Bool, true, false, List, [], ◌∷◌, map, length, Some, None, Option, slice_index_or}
use Rattle.std.specs.List.{range_with_len}
use Rattle.rules.specs.Names.{Name}
use Rattle.rules.specs.Expressions.{Expr, column, literal, get_field, cast, is_null, is_not_null, input_file_name, file_row_index, scalar_function, operator, Exprs, done, arg, is_column, path_of}
use Rattle.rules.specs.Findings.{Finding, through, path_step, findings_in}
use Rattle.format.specs.declared.kinds.NodeKind.{NodeKind}
use Rattle.format.specs.Kinds.{node_kind_of, literal_kind_of}
use Rattle.format.specs.Records.{no_node}
use Rattle.sheet.specs.declared.sheet.Sheet.{Sheet}
use Rattle.sheet.specs.Seen.{roots_in, nodes_in}
use Rattle.sheet.specs.SheetExpressions.{expr_at, type_at_place}
use Rattle.access.specs.Accesses.{node_name}
use Rattle.checker.specs.declared.recursion.TreeNodeRecursion.{TreeNodeRecursion}
use Rattle.checker.specs.declared.recursion.TreeNodeRecursion.TheVariants.{Continue, Jump}
use Rattle.checker.specs.declared.state.PushdownChecker.{PushdownChecker}
use Rattle.checker.specs.Found.{found}
use Rattle.checker.specs.Notes.{noted}
use Rattle.checker.specs.Predicates.{is_text_literal}
use Rattle.checker.specs.Settings.{sheet_of, file_of, findings_at}

-- the kind of the node at a place
abbrev pub kind_at : Sheet → ℕ → Option NodeKind
kind_at s place = node_kind_of (slice_index_or (nodes_in s) place no_node).kind

-- whether the node at a place is a literal with a text
abbrev pub is_text_at : Sheet → ℕ → Bool
is_text_at s place = is_text_literal (kind_at s place) (literal_kind_of (slice_index_or (nodes_in s) place no_node).literal_kind)

-- the arguments of an expression
abbrev pub arguments_of : Expr → Exprs
arguments_of (column n i) = done
arguments_of (literal l) = done
arguments_of (get_field t es) = es
arguments_of (cast g e) = arg e done
arguments_of (is_null e) = arg e done
arguments_of (is_not_null e) = arg e done
arguments_of (input_file_name es) = es
arguments_of (file_row_index es) = es
arguments_of (scalar_function f es) = es
arguments_of (operator f es) = es

abbrev pub first_is_column : Exprs → Bool
first_is_column done = false
first_is_column (arg e es) = is_column e

abbrev pub behind_first : Exprs → Exprs
behind_first done = done
behind_first (arg e es) = es

-- the texts of so many nodes from a place on
abbrev pub texts_at : Sheet → ℕ → ℕ → List Name
texts_at s first count = map (node_name s) (range_with_len first count)

-- the texts, of which it is told how many they are, spell the path; none do where there is no path
abbrev pub Spelt : Sheet → ℕ → Exprs → Option ℕ → Type 0
Spelt s first es (Some count) = (first + count ≤ length (nodes_in s)) × (path_of es ≡ Some (texts_at s first count))
Spelt s first es None = path_of es ≡ None

module _ (c : PushdownChecker) (place : ℕ) where
  abbrev pub arguments_at : Exprs
  arguments_at = arguments_of (expr_at (sheet_of c) place)

  -- what its arguments are found to need
  abbrev pub findings_below : List Finding
  findings_below = findings_in (file_of c) c.allow_list_columns c.collect_cast_accesses arguments_at

  -- get_field is read along a path of the column whose name is told; or it needs what its arguments need
  abbrev pub Accessed : Option Name → Type 0
  Accessed (Some name) =
      (first_is_column arguments_at ≡ true)
      × (findings_at c place ≡ path_step (file_of c) c.allow_list_columns c.collect_cast_accesses name (path_of (behind_first arguments_at)))
  Accessed None = findings_at c place ≡ findings_below

  -- a cast of the root that is told is recorded; or it needs what its argument needs
  abbrev pub Recorded : Option ℕ → Type 0
  Recorded (Some j) =
      (j < length (roots_in (sheet_of c)))
      × (findings_at c place ≡ through j (type_at_place (sheet_of c) (slice_index_or (nodes_in (sheet_of c)) place no_node).type_place) ∷ [])
  Recorded None = findings_at c place ≡ findings_below

  -- the node is done with all below it; or nothing was noted, and its arguments come next
  abbrev pub Visited : PushdownChecker → TreeNodeRecursion → Type 0
  Visited after Jump = found after ≡ noted (found c) (findings_at c place)
  Visited after Continue = (found after ≡ found c) × (findings_at c place ≡ findings_below)
