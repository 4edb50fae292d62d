-- The laws of read plans: exactly which leaves are read, exactly which fields are kept. Assumes nothing.
use Rattle.std.specs.Prelude.{◌≡◌, ℕ, zero, suc, ◌+◌, ◌<◌, Bool, true, false, cond, ◌&&◌, List, [], ◌∷◌, length, Some, nat_lt, slice_index}
use Rattle.std.specs.List.{slice_get}
use Rattle.rules.specs.Expressions.{Expr}
use Rattle.rules.specs.Findings.{accesses_of, casts_of}
use Rattle.rules.specs.Keeping.{kept_leaves, clipped}
use Rattle.rules.specs.Leaves.{Leaf, roots, NeverFalls}
use Rattle.rules.specs.ReadPlan.{Reading, unread, entire, along, narrowed, leaves_on, first_number, is_along, read_keep, kept_field, ReadPlan, plan_by, all_collected, collection_reading, filter_reading, read_plan}
use Rattle.rules.specs.RootPlan.{is_listed}
use Rattle.rules.specs.Types.{Ty, Fields, empty, field, File, type_at}

-- how many fields there are
abbrev pub field_count : Fields → ℕ
field_count empty = 0
field_count (field n b t fs) = suc (field_count fs)

-- each number is above the one before it
abbrev pub Ascends : List ℕ → Type 0
Ascends xs = (i : ℕ) → i + 1 < length xs → slice_index xs i < slice_index xs (i + 1)

-- Whether the leaf number i, which is l, is read: its root is read entire; or it has parts, and an access path on its root
-- prefixes those after the first; or it is one of the clip's leaves.
abbrev pub is_read_by : Reading → Ty → (first : ℕ) → ℕ → Leaf → Bool
is_read_by unread t first i l = false
is_read_by entire t first i l = true
is_read_by (along ps) t first i l = is_along ps l.parts
is_read_by (narrowed g) t first i l = is_listed (kept_leaves (clipped t g) first t) i

abbrev pub is_read_leaf : File → List Leaf → (ℕ → Reading) → ℕ → Leaf → Bool
is_read_leaf file ls reading i l =
    nat_lt l.root (field_count file) && is_read_by (reading l.root) (type_at file l.root) (first_number (leaves_on l.root 0 ls)) i l

-- the roots that are read, of those from j on
abbrev pub is_read : Reading → Bool
is_read unread = false
is_read entire = true
is_read (along ps) = true
is_read (narrowed g) = true

abbrev pub roots_read : (ℕ → Reading) → ℕ → Fields → List ℕ
roots_read reading j empty = []
roots_read reading j (field n b t fs) = cond (is_read (reading j)) (j ∷ roots_read reading (j + 1) fs) (roots_read reading (j + 1) fs)

-- the field number j with what is kept of it, in front of others
abbrev pub kept_at : File → (ℕ → Reading) → ℕ → Fields → Fields
kept_at empty reading j rest = rest
kept_at (field n b t fs) reading zero rest = kept_field (read_keep (reading 0) t) n b t rest
kept_at (field n b t fs) reading (suc j) rest = kept_at fs (λ k. reading (suc k)) j rest

abbrev pub kept_each : File → (ℕ → Reading) → List ℕ → Fields
kept_each file reading [] = empty
kept_each file reading (j ∷ js) = kept_at file reading j (kept_each file reading js)

-- The law of one plan: its leaves ascend, each once, and are exactly those that are to be read; its fields are what is kept
-- of the roots that are read, ascending, each once.
pub record PlannedExactly (file : File) (ls : List Leaf) (reading : ℕ → Reading) (plan : ReadPlan) : Type 0 where
  pub ascending : Ascends plan.leaves
  pub listed : (i : ℕ) (l : Leaf) → slice_get ls i ≡ Some l → is_listed plan.leaves i ≡ is_read_leaf file ls reading i l
  pub within : (i : ℕ) → is_listed plan.leaves i ≡ true → i < length ls
  pub rising : Ascends (roots_read reading 0 file)
  pub fields : plan.fields ≡ kept_each file reading (roots_read reading 0 file)

-- It holds of the plan of every list of expressions, and of every filter's plan, over every directory's list of leaves.
abbrev pub PlansExact : Type 0
PlansExact =
    (file : File) (ls : List Leaf) → NeverFalls (roots ls)
    → ((es : List Expr) → PlannedExactly file ls (collection_reading file ls es (accesses_of (all_collected file es)) (casts_of (all_collected file es))) (read_plan file ls es))
    × ((e : Expr) → PlannedExactly file ls (filter_reading file e) (plan_by (filter_reading file e) file ls))
