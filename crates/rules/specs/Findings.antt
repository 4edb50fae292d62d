-- What an expression is found to need of a file: the rules of the walk. Assumes nothing.
use Rattle.std.specs.Prelude.{ℕ, Bool, true, false, cond, not, ◌&&◌, ◌||◌, List, [], ◌∷◌, ◌++◌, Some, None, Option}
use Rattle.rules.specs.Names.{Name}
use Rattle.rules.specs.Types.{Ty, leaf, struct, wrap, File, first_named, type_at, is_nested, is_map, is_list, both_lists}
use Rattle.rules.specs.Expressions.{Expr, column, literal, get_field, cast, is_null, is_not_null, input_file_name, file_row_index, scalar_function, operator, Exprs, done, arg, name_of_column, path_of}

-- one thing that the walk finds
pub data Finding : Type 0 where
  -- a root is read whole
  required : ℕ → Finding
  -- a root is read along a path
  accessed : ℕ → List Name → Finding
  -- a root is read through a cast to a type
  through : ℕ → Ty → Finding
  -- flag 1: a column's name is no root's
  unknown : Finding
  -- flag 2: a column is nested, and no supported list
  unsupported : Finding
  -- flag 3: what only the reader knows is asked for
  unpushable : Finding

-- a cast from one type to the other is looked into: Struct to Struct, or List to List or LargeList to LargeList with
-- such items
abbrev pub is_nested_cast : Ty → Ty → Bool
is_nested_cast (leaf c) g = false
is_nested_cast (struct fs) (leaf d) = false
is_nested_cast (struct fs) (struct gs) = true
is_nested_cast (struct fs) (wrap v m e u) = false
is_nested_cast (wrap w n b t) (leaf d) = false
is_nested_cast (wrap w n b t) (struct gs) = false
is_nested_cast (wrap w n b t) (wrap v m e u) = both_lists w v && is_nested_cast t u

-- file: the roots; lists: whether lists are supported; casts: whether casts are recorded, as they are in a collection
module _ (file : File) (lists casts : Bool) where
  abbrev pub is_supported : Ty → Bool
  is_supported t = lists && is_list t

  abbrev pub step_on : Option ℕ → List Finding
  step_on None = unknown ∷ []
  step_on (Some j) =
      required j ∷ cond (is_nested (type_at file j) && not (is_supported (type_at file j))) (unsupported ∷ []) []

  -- the column step
  abbrev pub column_step : Name → List Finding
  column_step name = step_on (first_named name 0 file)

  abbrev pub access_on : List Name → Option ℕ → List Finding
  access_on path None = unknown ∷ []
  access_on path (Some j) = accessed j path ∷ []

  -- the path that follows a column; where one is no text literal, the column is read whole
  abbrev pub path_step : Name → Option (List Name) → List Finding
  path_step name None = column_step name
  path_step name (Some path) = access_on path (first_named name 0 file)

  abbrev pub is_map_root : Option ℕ → Bool
  is_map_root None = false
  is_map_root (Some j) = is_map (type_at file j)

  -- get_field that returns t, by the name of its column, if its first child is one; `inside` is what its children need
  abbrev pub get_field_step : Ty → Option Name → Exprs → List Finding → List Finding
  get_field_step t None es inside = inside
  get_field_step t (Some name) es inside =
      cond (not (is_map_root (first_named name 0 file)) && (not (is_nested t) || is_supported t)) (path_step name (path_of es)) inside

  abbrev pub cast_on : Ty → Option ℕ → List Finding → List Finding
  cast_on g None inside = inside
  cast_on g (Some j) inside = cond (casts && is_nested_cast (type_at file j) g) (through j g ∷ []) inside

  -- a cast to g, by the name of its column, if its child is one
  abbrev pub cast_step : Ty → Option Name → List Finding → List Finding
  cast_step g None inside = inside
  cast_step g (Some name) inside = cast_on g (first_named name 0 file) inside

  -- the first child of get_field, and those behind it
  abbrev pub on_first : Ty → Exprs → List Finding → List Finding
  on_first t done inside = inside
  on_first t (arg e es) inside = get_field_step t (name_of_column e) es inside

  -- in preorder, each node by the first rule that fits
  abbrev mutual
    pub findings : Expr → List Finding
    findings (column n i) = column_step n
    findings (literal l) = []
    findings (get_field t es) = on_first t es (findings_in es)
    findings (cast g e) = cast_step g (name_of_column e) (findings e)
    findings (is_null e) = findings e
    findings (is_not_null e) = findings e
    findings (input_file_name es) = unpushable ∷ []
    findings (file_row_index es) = unpushable ∷ []
    findings (scalar_function f es) = findings_in es
    findings (operator f es) = findings_in es

    pub findings_in : Exprs → List Finding
    findings_in done = []
    findings_in (arg e es) = findings e ++ findings_in es

-- what the findings come to: the roots that are required, the accesses and the casts, each with its root, in order; and
-- whether a flag is set
abbrev pub required_of : List Finding → List ℕ
required_of [] = []
required_of (f ∷ fs) = elim f [ required j ↦ j ∷ required_of fs | accessed j p ↦ required_of fs | through j g ↦ required_of fs | unknown ↦ required_of fs | unsupported ↦ required_of fs | unpushable ↦ required_of fs ]

abbrev pub accesses_of : List Finding → List (ℕ × List Name)
accesses_of [] = []
accesses_of (f ∷ fs) = elim f [ required j ↦ accesses_of fs | accessed j p ↦ (j, p) ∷ accesses_of fs | through j g ↦ accesses_of fs | unknown ↦ accesses_of fs | unsupported ↦ accesses_of fs | unpushable ↦ accesses_of fs ]

abbrev pub casts_of : List Finding → List (ℕ × Ty)
casts_of [] = []
casts_of (f ∷ fs) = elim f [ required j ↦ casts_of fs | accessed j p ↦ casts_of fs | through j g ↦ (j, g) ∷ casts_of fs | unknown ↦ casts_of fs | unsupported ↦ casts_of fs | unpushable ↦ casts_of fs ]

abbrev pub is_flagged : List Finding → Bool
is_flagged [] = false
is_flagged (f ∷ fs) = elim f [ required j ↦ is_flagged fs | accessed j p ↦ is_flagged fs | through j g ↦ is_flagged fs | unknown ↦ true | unsupported ↦ true | unpushable ↦ true ]
