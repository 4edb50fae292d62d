-- What a collection holds, and what an offer makes of it. Assumes nothing.
use Rattle.std.specs.Prelude.{ℕ, ◌+◌, Bool, cond, ◌&&◌, List, [], ◌∷◌, ◌++◌, map, length, take, Some, None, Ok, Err, Option, Result, nat_le, nat_lt}
use Rattle.rules.specs.Expressions.{Expr}
use Rattle.rules.specs.Findings.{Finding, accesses_of, casts_of}
use Rattle.rules.specs.Names.{Name}
use Rattle.rules.specs.ReadPlan.{collected}
use Rattle.rules.specs.Types.{Ty}
use Rattle.format.specs.declared.fault.Fault.{Fault}
use Rattle.format.specs.declared.fault.Fault.TheVariants.{NoExpression, TablesFull}
use Rattle.sheet.specs.declared.sheet.Sheet.{Sheet}
use Rattle.sheet.specs.SheetTrees.{file_in}
use Rattle.sheet.specs.SheetExpressions.{expression_at}
use Rattle.access.specs.Accesses.{access_in, cast_in}
use Rattle.access.specs.declared.accesses.CastColumnAccess.{CastColumnAccess}
use Rattle.access.specs.declared.accesses.StructFieldAccess.{StructFieldAccess}
use Rattle.collection.specs.declared.state.Collection.{Collection}
use Rattle.collection.specs.declared.state.Records.{Records}

-- What a collection holds, read by a sheet: the numbers of its expressions, its casts and its accesses. A record that names
-- what the sheet lacks stands for none.
pub record View : Type 0 where
  pub expressions : List ℕ
  pub casts : List (Option (ℕ × Ty))
  pub accesses : List (Option (ℕ × List Name))

-- the records that are in force, as they stand in the tables
pub record Held : Type 0 where
  pub expressions : List ℕ
  pub casts : List CastColumnAccess
  pub accesses : List StructFieldAccess

unfoldable pub held : Collection → Records → Held
held c t = record { expressions = take c.counts.expressions t.expressions; casts = take c.counts.casts t.casts; accesses = take c.counts.accesses t.accesses }

abbrev pub seen_by : Sheet → Held → View
seen_by s h = record { expressions = h.expressions; casts = map (cast_in s) h.casts; accesses = map (access_in s) h.accesses }

abbrev pub view : Sheet → Collection → Records → View
view s c t = seen_by s (held c t)

-- what a collection begins with
abbrev pub nothing : View
nothing = record { expressions = []; casts = []; accesses = [] }

-- the 65th expression, the 65th cast and the 257th access do not fit
abbrev pub has_room_for : View → List Finding → Bool
has_room_for v fs =
    nat_lt (length v.expressions) 64
    && (nat_le (length v.casts + length (casts_of fs)) 64 && nat_le (length v.accesses + length (accesses_of fs)) 256)

abbrev pub with_findings : View → ℕ → List Finding → View
with_findings v e fs =
    record { expressions = v.expressions ++ e ∷ []; casts = v.casts ++ map Some (casts_of fs); accesses = v.accesses ++ map Some (accesses_of fs) }

abbrev pub Offered : Type 0
Offered = Result (Unit {0}) Fault × View

abbrev pub offered_by : Option Expr → Sheet → View → ℕ → Offered
offered_by None s v e = (Err (NoExpression e), v)
offered_by (Some x) s v e =
    cond (has_room_for v (collected (file_in s) x)) (Ok tt, with_findings v e (collected (file_in s) x)) (Err (TablesFull e), v)

-- An offer that is taken adds the expression, and the casts and accesses that are found in it; a refused one adds nothing.
abbrev pub offered : Sheet → View → ℕ → Offered
offered s v e = offered_by (expression_at s e) s v e

-- One expression, several casts or several accesses more; too many are refused, and change nothing.
abbrev pub Pushed : Type 0
Pushed = Result (Unit {0}) Fault × Held

abbrev pub with_expression : Held → ℕ → Pushed
with_expression h e =
    cond (nat_lt (length h.expressions) 64) (Ok tt, record { expressions = h.expressions ++ e ∷ []; casts = h.casts; accesses = h.accesses }) (Err (TablesFull e), h)

abbrev pub with_casts : Held → ℕ → List CastColumnAccess → Pushed
with_casts h e cs =
    cond (nat_le (length h.casts + length cs) 64) (Ok tt, record { expressions = h.expressions; casts = h.casts ++ cs; accesses = h.accesses }) (Err (TablesFull e), h)

abbrev pub with_accesses : Held → ℕ → List StructFieldAccess → Pushed
with_accesses h e xs =
    cond (nat_le (length h.accesses + length xs) 256) (Ok tt, record { expressions = h.expressions; casts = h.casts; accesses = h.accesses ++ xs }) (Err (TablesFull e), h)
