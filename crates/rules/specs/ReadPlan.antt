-- The plan of a list of expressions, and of a filter: which leaves are read, and the projected schema. Assumes nothing.
use Rattle.std.specs.Prelude.{ℕ, ◌+◌, Bool, true, false, cond, not, ◌&&◌, List, [], ◌∷◌, ◌++◌, map, length, Some, None, Option, ◌==◌}
use Rattle.std.specs.List.{flat_map}
use Rattle.rules.specs.Names.{Name}
use Rattle.rules.specs.Types.{Ty, Fields, empty, field, File, leaf_count_of, type_at, bears_at, contains_struct, same_type}
use Rattle.rules.specs.Expressions.{Expr, is_column, columns_of_expr, has_list_predicate}
use Rattle.rules.specs.Findings.{Finding, findings, required_of, accesses_of, casts_of, is_flagged}
use Rattle.rules.specs.Keeping.{Keep, all, kept_type, kept_leaves, clipped, is_clipped, pruned, any_prefix}
use Rattle.rules.specs.Leaves.{Leaf}
use Rattle.rules.specs.RootPlan.{is_listed}

-- how a root is read: not at all, entire, along access paths, or as a cast to a type needs it
pub data Reading : Type 0 where
  unread : Reading
  entire : Reading
  along : List (List Name) → Reading
  narrowed : Ty → Reading

-- the leaves of root j, each with its number; the first of the list has the number k
abbrev pub leaves_on : ℕ → ℕ → List Leaf → List (ℕ × Leaf)
leaves_on j k [] = []
leaves_on j k (l ∷ ls) = cond (l.root == j) ((k, l) ∷ leaves_on j (k + 1) ls) (leaves_on j (k + 1) ls)

abbrev pub numbers : List (ℕ × Leaf) → List ℕ
numbers own = map (λ x. x.0) own

abbrev pub first_number : List (ℕ × Leaf) → ℕ
first_number [] = 0
first_number (x ∷ xs) = x.0

-- a leaf has parts, and one of the paths prefixes those after the first
abbrev pub is_along : List (List Name) → List Name → Bool
is_along ps [] = false
is_along ps (root ∷ parts) = any_prefix ps parts

abbrev pub numbers_along : List (List Name) → List (ℕ × Leaf) → List ℕ
numbers_along ps [] = []
numbers_along ps (x ∷ xs) = cond (is_along ps x.1.parts) (x.0 ∷ numbers_along ps xs) (numbers_along ps xs)

-- the leaves that are read of a root of type t that has these leaves
abbrev pub read_leaves : Reading → Ty → List (ℕ × Leaf) → List ℕ
read_leaves unread t own = []
read_leaves entire t own = numbers own
read_leaves (along ps) t own = numbers_along ps own
read_leaves (narrowed g) t own = kept_leaves (clipped t g) (first_number own) t

-- what is kept of the root's field
abbrev pub read_keep : Reading → Ty → Option Keep
read_keep unread t = None
read_keep entire t = Some all
read_keep (along ps) t = Some (pruned ps t)
read_keep (narrowed g) t = Some (clipped t g)

-- A PLAN: the numbers of the leaves that are read, and the projected schema.
pub record ReadPlan : Type 0 where
  pub leaves : List ℕ
  pub fields : File

abbrev pub kept_field : Option Keep → Name → Bool → Ty → Fields → Fields
kept_field None n b t fs = fs
kept_field (Some k) n b t fs = field n b (kept_type k t) fs

module _ (reading : ℕ → Reading) where
  -- the leaves and fields of the roots from number j on
  abbrev pub leaves_from : List Leaf → ℕ → Fields → List ℕ
  leaves_from ls j empty = []
  leaves_from ls j (field n b t fs) = read_leaves (reading j) t (leaves_on j 0 ls) ++ leaves_from ls (j + 1) fs

  abbrev pub fields_from : ℕ → Fields → Fields
  fields_from j empty = empty
  fields_from j (field n b t fs) = kept_field (read_keep (reading j) t) n b t (fields_from (j + 1) fs)

  abbrev pub plan_by : File → List Leaf → ReadPlan
  plan_by file ls = record { leaves = leaves_from ls 0 file; fields = fields_from 0 file }

module _ {A : Type 0} where
  -- what is recorded on root j
  abbrev pub on : ℕ → List (ℕ × A) → List A
  on j [] = []
  on j (x ∷ xs) = cond (x.0 == j) (x.1 ∷ on j xs) (on j xs)

  -- what is recorded on roots that are not listed
  abbrev pub unlisted : List ℕ → List (ℕ × A) → List (ℕ × A)
  unlisted listed [] = []
  unlisted listed (x ∷ xs) = cond (is_listed listed x.0) (unlisted listed xs) (x ∷ unlisted listed xs)

  abbrev pub is_empty : List A → Bool
  is_empty [] = true
  is_empty (x ∷ xs) = false

abbrev pub every : {A : Type 0} → (A → Bool) → List A → Bool
every test [] = true
every test (x ∷ xs) = test x && every test xs

-- A root plan: listed roots are read entire.
abbrev pub root_reading : List ℕ → ℕ → Reading
root_reading listed j = cond (is_listed listed j) entire unread

abbrev pub by_paths : List (List Name) → Reading
by_paths [] = unread
by_paths (p ∷ ps) = along (p ∷ ps)

-- Assembling: besides the listed roots, others are read along the accesses on them.
abbrev pub assembled_reading : List ℕ → List (ℕ × List Name) → ℕ → Reading
assembled_reading listed accesses j = cond (is_listed listed j) entire (by_paths (on j accesses))

-- all columns of some expressions, and their indices
abbrev pub all_columns : List Expr → List (Name × ℕ)
all_columns es = flat_map columns_of_expr es

abbrev pub indices : List Expr → List ℕ
indices es = map (λ c. c.1) (all_columns es)

module _ (file : File) where
  -- a column's index has its name, and the root there has no Struct inside
  abbrev pub is_plain_root : Name × ℕ → Bool
  is_plain_root c = bears_at file c.1 c.0 && not (contains_struct (type_at file c.1))

  -- what a collection finds in an expression, and in several
  abbrev pub collected : Expr → List Finding
  collected e = findings file true true e

  abbrev pub all_collected : List Expr → List Finding
  all_collected es = flat_map collected es

  -- what a filter finds: lists are supported if it has a list predicate, and casts are not recorded
  abbrev pub filter_findings : Expr → List Finding
  filter_findings e = findings file (has_list_predicate e) false e

  abbrev pub filter_reading : Expr → ℕ → Reading
  filter_reading e j = assembled_reading (required_of (filter_findings e)) (accesses_of (filter_findings e)) j

module _ (file : File) (ls : List Leaf) where
  -- the casts on a root can be met by one clip: they meet no access and no other target, the directory has as many leaves
  -- of the root as its type has, and the clip comes to something
  abbrev pub can_narrow : ℕ → Ty → List Ty → List (List Name) → Bool
  can_narrow j g gs paths =
      is_empty paths && (every (same_type g) gs && (length (leaves_on j 0 ls) == leaf_count_of (type_at file j) && is_clipped (type_at file j) g))

  abbrev pub by_casts : ℕ → List Ty → List (List Name) → Reading
  by_casts j [] paths = by_paths paths
  by_casts j (g ∷ gs) paths = cond (can_narrow j g gs paths) (narrowed g) entire

  -- With casts: listed roots are read entire, others by the casts on them, and those without casts along the accesses.
  abbrev pub cast_reading : List ℕ → List (ℕ × List Name) → List (ℕ × Ty) → ℕ → Reading
  cast_reading listed accesses casts j = cond (is_listed listed j) entire (by_casts j (on j casts) (on j accesses))

  -- casts that are left once those on required roots are dropped ask for clipping; else accesses ask for assembling
  abbrev pub walked_reading : List ℕ → List (ℕ × List Name) → List (ℕ × Ty) → ℕ → Reading
  walked_reading listed accesses casts j =
      cond (is_empty casts) (cond (is_empty accesses) (root_reading listed j) (assembled_reading listed accesses j)) (cast_reading listed accesses casts j)

  -- How the expressions of a collection have root j read, where it recorded these accesses and casts: by their columns'
  -- indices if all of them are columns, or if every column's index has its name and no Struct inside; else by the walk.
  abbrev pub collection_reading : List Expr → List (ℕ × List Name) → List (ℕ × Ty) → ℕ → Reading
  collection_reading es accesses casts j =
      cond (every is_column es) (root_reading (indices es) j)
      (cond (every (is_plain_root file) (all_columns es)) (root_reading (indices es) j)
      (walked_reading (required_of (all_collected file es)) accesses (unlisted (required_of (all_collected file es)) casts) j))

  -- THE PLAN OF A LIST OF EXPRESSIONS
  abbrev pub read_plan : List Expr → ReadPlan
  read_plan es = plan_by (collection_reading es (accesses_of (all_collected file es)) (casts_of (all_collected file es))) file ls

  -- THE PLAN OF A FILTER, or none where it is kept back
  abbrev pub filter_plan : Expr → Option ReadPlan
  filter_plan e = cond (is_flagged (filter_findings file e)) None (Some (plan_by (filter_reading file e) file ls))
