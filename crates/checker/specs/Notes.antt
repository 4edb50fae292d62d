-- Findings, taken down one after the other. Assumes nothing.
use Rattle.std.specs.Prelude.{ℕ, ◌+◌, Bool, true, false, cond, ◌||◌, List, [], ◌∷◌, ◌++◌, replicate, Some, Option, slice_set}
use Rattle.rules.specs.Names.{Name}
use Rattle.rules.specs.Types.{Ty}
use Rattle.rules.specs.Findings.{Finding, required, accessed, through, unknown, unsupported, unpushable}

-- what was found so far: a flag for each root that is required, the accesses and the casts, and the three flags
pub record Notes : Type 0 where
  pub roots : List Bool
  pub accesses : List (Option (ℕ × List Name))
  pub casts : List (Option (ℕ × Ty))
  pub unknowns : Bool
  pub unsupporteds : Bool
  pub unpushables : Bool

abbrev pub no_notes : Notes
no_notes = record { roots = replicate 256 false; accesses = []; casts = []; unknowns = false; unsupporteds = false; unpushables = false }

abbrev pub note : Notes → Finding → Notes
note n (required j) = record { roots = slice_set n.roots j true; accesses = n.accesses; casts = n.casts; unknowns = n.unknowns; unsupporteds = n.unsupporteds; unpushables = n.unpushables }
note n (accessed j p) = record { roots = n.roots; accesses = n.accesses ++ Some (j, p) ∷ []; casts = n.casts; unknowns = n.unknowns; unsupporteds = n.unsupporteds; unpushables = n.unpushables }
note n (through j g) = record { roots = n.roots; accesses = n.accesses; casts = n.casts ++ Some (j, g) ∷ []; unknowns = n.unknowns; unsupporteds = n.unsupporteds; unpushables = n.unpushables }
note n unknown = record { roots = n.roots; accesses = n.accesses; casts = n.casts; unknowns = true; unsupporteds = n.unsupporteds; unpushables = n.unpushables }
note n unsupported = record { roots = n.roots; accesses = n.accesses; casts = n.casts; unknowns = n.unknowns; unsupporteds = true; unpushables = n.unpushables }
note n unpushable = record { roots = n.roots; accesses = n.accesses; casts = n.casts; unknowns = n.unknowns; unsupporteds = n.unsupporteds; unpushables = true }

abbrev pub noted : Notes → List Finding → Notes
noted n [] = n
noted n (f ∷ fs) = noted (note n f) fs

-- the numbers, the first of which is k, of the flags that are set
abbrev pub flagged : ℕ → List Bool → List ℕ
flagged k [] = []
flagged k (b ∷ bs) = cond b (k ∷ flagged (k + 1) bs) (flagged (k + 1) bs)

abbrev pub is_kept_back : Notes → Bool
is_kept_back n = n.unsupporteds || (n.unknowns || n.unpushables)
