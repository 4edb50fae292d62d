-- The sample file, and the eleven cases by which the rules are tried on it. Assumes nothing.
use Rattle.std.specs.Prelude.{◌≡◌, ℕ, Bool, true, false, ◌&&◌, List, [], ◌∷◌, Some, None, codes, Option, ◌==◌}
use Rattle.rules.specs.Expressions.{Expr, column, literal, text, get_field, cast, is_null, Exprs, done, arg}
use Rattle.rules.specs.Leaves.{Leaf}
use Rattle.rules.specs.Names.{Name}
use Rattle.rules.specs.ReadPlan.{ReadPlan, every, read_plan, filter_plan}
use Rattle.rules.specs.Types.{Ty, leaf, struct, wrap, list, empty, field, File}

-- id, an integer; leg, a Struct of px {bid, ask} and qty; fills, a List of Structs of firm, lot and tag
abbrev pub prices : Ty
prices = struct (field (codes "bid") true (leaf 2) (field (codes "ask") true (leaf 2) empty))

abbrev pub leg : Ty
leg = struct (field (codes "px") true prices (field (codes "qty") true (leaf 2) empty))

abbrev pub fill : Ty
fill = struct (field (codes "firm") true (leaf 3) (field (codes "lot") true (leaf 2) (field (codes "tag") true (leaf 3) empty)))

abbrev pub fills : Ty
fills = wrap list (codes "element") true fill

abbrev pub sample : File
sample = field (codes "id") true (leaf 2) (field (codes "leg") true leg (field (codes "fills") true fills empty))

abbrev at : ℕ → List Name → Leaf
at r ps = record { root = r; parts = ps }

abbrev pub sample_leaves : List Leaf
sample_leaves =
    at 0 (codes "id" ∷ [])
    ∷ at 1 (codes "leg" ∷ codes "px" ∷ codes "bid" ∷ [])
    ∷ at 1 (codes "leg" ∷ codes "px" ∷ codes "ask" ∷ [])
    ∷ at 1 (codes "leg" ∷ codes "qty" ∷ [])
    ∷ at 2 (codes "fills" ∷ codes "list" ∷ codes "element" ∷ codes "firm" ∷ [])
    ∷ at 2 (codes "fills" ∷ codes "list" ∷ codes "element" ∷ codes "lot" ∷ [])
    ∷ at 2 (codes "fills" ∷ codes "list" ∷ codes "element" ∷ codes "tag" ∷ [])
    ∷ []

abbrev name : Name → Exprs → Exprs
name n es = arg (literal (text n)) es

abbrev id : Expr
id = column (codes "id") 0

abbrev legs : Expr
legs = column (codes "leg") 1

abbrev fills_column : Expr
fills_column = column (codes "fills") 2

-- a cast of fills to a List of Structs of one field
abbrev only : Name → Ty → Expr
only n t = cast (wrap list (codes "element") true (struct (field n true t empty))) fills_column

-- a plan draws these leaves; a filter is kept back; a filter is pushed, and its plan draws these leaves
pub data Case : Type 0 where
  draws : List Expr → List ℕ → Case
  kept_back : Expr → Case
  pushes : Expr → List ℕ → Case

abbrev pub same_numbers : List ℕ → List ℕ → Bool
same_numbers [] [] = true
same_numbers [] (y ∷ ys) = false
same_numbers (x ∷ xs) [] = false
same_numbers (x ∷ xs) (y ∷ ys) = x == y && same_numbers xs ys

abbrev pub draws_only : Option ReadPlan → List ℕ → Bool
draws_only None ns = false
draws_only (Some p) ns = same_numbers p.leaves ns

abbrev pub is_back : Option ReadPlan → Bool
is_back None = true
is_back (Some p) = false

abbrev pub passes : Case → Bool
passes (draws es ns) = same_numbers (read_plan sample sample_leaves es).leaves ns
passes (kept_back e) = is_back (filter_plan sample sample_leaves e)
passes (pushes e ns) = draws_only (filter_plan sample sample_leaves e) ns

abbrev pub cases : List Case
cases =
    draws [] []
    ∷ draws (fills_column ∷ id ∷ []) (0 ∷ 4 ∷ 5 ∷ 6 ∷ [])
    ∷ draws (get_field (leaf 2) (arg legs (name (codes "px") (name (codes "ask") done))) ∷ []) (2 ∷ [])
    ∷ draws (get_field (leaf 2) (arg legs (name (codes "qty") done)) ∷ []) (3 ∷ [])
    ∷ draws (get_field prices (arg legs (name (codes "px") done)) ∷ []) (1 ∷ 2 ∷ 3 ∷ [])
    ∷ kept_back (get_field prices (arg legs (name (codes "px") done)))
    ∷ draws (get_field (leaf 2) (arg legs done) ∷ []) (1 ∷ 2 ∷ 3 ∷ [])
    ∷ draws (cast (struct (field (codes "qty") true (leaf 2) empty)) legs ∷ []) (3 ∷ [])
    ∷ draws (only (codes "lot") (leaf 2) ∷ []) (5 ∷ [])
    ∷ draws (only (codes "lot") (leaf 2) ∷ only (codes "tag") (leaf 3) ∷ []) (4 ∷ 5 ∷ 6 ∷ [])
    ∷ draws (only (codes "side") (leaf 2) ∷ []) (4 ∷ 5 ∷ 6 ∷ [])
    ∷ pushes (is_null fills_column) (4 ∷ 5 ∷ 6 ∷ [])
    ∷ []

-- all of them, by computation
abbrev pub SampleStands : Type 0
SampleStands = every passes cases ≡ true
