-- The plan that reads listed roots whole. Assumes nothing.
use Rattle.std.specs.Prelude.{ℕ, ◌+◌, ◌-◌, Bool, false, cond, ◌||◌, List, [], ◌∷◌, ◌++◌, length, replicate, ◌==◌}
use Rattle.rules.specs.Leaves.{Leaf}
use Rattle.rules.specs.Types.{empty, field, File}

abbrev pub is_listed : List ℕ → ℕ → Bool
is_listed [] x = false
is_listed (y ∷ ys) x = y == x || is_listed ys x

-- the numbers, the first of which is k, of the leaves whose root is listed
abbrev pub leaves_of_listed : List ℕ → ℕ → List Leaf → List ℕ
leaves_of_listed listed k [] = []
leaves_of_listed listed k (l ∷ ls) =
    cond (is_listed listed l.root) (k ∷ leaves_of_listed listed (k + 1) ls) (leaves_of_listed listed (k + 1) ls)

-- of the fields of the roots, the first of which is root k, those of the listed roots
abbrev pub fields_of_listed : {F : Type 0} → List ℕ → ℕ → List F → List F
fields_of_listed listed k [] = []
fields_of_listed listed k (f ∷ fs) =
    cond (is_listed listed k) (f ∷ fields_of_listed listed (k + 1) fs) (fields_of_listed listed (k + 1) fs)

-- the same of a file: what is left of it if only the listed roots are read
abbrev pub roots_of_listed : List ℕ → ℕ → File → File
roots_of_listed listed k empty = empty
roots_of_listed listed k (field n b t fs) =
    cond (is_listed listed k) (field n b t (roots_of_listed listed (k + 1) fs)) (roots_of_listed listed (k + 1) fs)

-- what a buffer of n places holds: a result, and then blanks
abbrev pub padded : {A : Type 0} → A → List A → ℕ → List A
padded blank xs n = xs ++ replicate (n - length xs) blank
