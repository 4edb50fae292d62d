-- The first of several. Assumes nothing.
use Rattle.std.specs.Prelude.{ℕ, zero, suc, ◌+◌, min, Bool, cond, List, [], ◌∷◌, Some, None, Option}

-- the first of n places from p on that fails a test
abbrev pub first_failing : (ℕ → Bool) → (p n : ℕ) → Option ℕ
first_failing ok p zero = None
first_failing ok p (suc n) = cond (ok p) (first_failing ok (p + 1) n) (Some p)

abbrev pub or_else : {A : Type 0} → Option A → Option A → Option A
or_else (Some a) o = Some a
or_else None o = o

-- the first that there is
abbrev pub first_found : {A : Type 0} → List (Option A) → Option A
first_found [] = None
first_found (o ∷ os) = or_else o (first_found os)

-- the earlier of two finds
abbrev pub earlier : Option ℕ → Option ℕ → Option ℕ
earlier None o = o
earlier (Some x) None = Some x
earlier (Some x) (Some y) = Some (min x y)
