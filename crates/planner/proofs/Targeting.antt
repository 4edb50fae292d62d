-- The casts on a root, gone through one by one. Assumes nothing.
use Rattle.std.proofs.Common.{Bor, ◌≡◌, ℕ, Bool, true, false, cond, not, ◌&&◌, ◌||◌, eqb, ltb, List, [], ◌∷◌, length, Some, None, Option, sym, refl, ap, ◌∙◌, ◌<◌, arith}
use Rattle.std.proofs.lemmas.Bool.{and_parts, ltb-true}
use Rattle.std.specs.List.{find, list_any}
use Rattle.std.specs.Option.{option_map, MatchOption, IsSomeAnd}
use Rattle.rules.specs.ReadPlan.{on, every}
use Rattle.rules.specs.Types.{same_type}
use Rattle.sheet.specs.declared.sheet.Sheet.{Sheet}
use Rattle.sheet.specs.Seen.{roots_in, types_in}
use Rattle.sheet.specs.SheetExpressions.{type_at_place}
use Rattle.access.specs.declared.accesses.CastColumnAccess.{CastColumnAccess}
use Rattle.access.specs.Accesses.{is_cast, added, casts_in}
use Rattle.planner.specs.Targets.{is_cast_on, is_unlike, targets_on, first_of, FirstTarget}

-- what `map` answers, where a call of its closure gives f
pub mapped : {X Y : Type 0} (P : X → Y → Type 0) (f : X → Y) → ((x : X) (y : Y) → P x y → y ≡ f x) → (o : Option X) (r : Option Y) → MatchOption o (r ≡ None) (λ x. IsSomeAnd r (P x)) → r ≡ option_map f o
mapped P f says None r h = h
mapped P f says (Some x) None h = absurd h
mapped P f says (Some x) (Some y) h = ap Some (says x y h)

module _ (s : Sheet) (j : ℕ) where
  -- one cast, and those behind it
  targets_more : (c : CastColumnAccess) (cs : List CastColumnAccess) → targets_on s (c ∷ cs) j ≡ cond (is_cast_on s c j) (type_at_place s c.target_type ∷ targets_on s cs j) (targets_on s cs j)
  targets_more c cs = go (is_cast s c)
    where
      go : (a : Bool) → on j (added (cond a (Some (c.root_index, type_at_place s c.target_type)) None) (casts_in s cs)) ≡ cond (a && eqb c.root_index j) (type_at_place s c.target_type ∷ targets_on s cs j) (targets_on s cs j)
      go true = refl
      go false = refl

  -- the first target is that of the first cast on the root
  first_is : (cs : List CastColumnAccess) → option_map (λ (c : CastColumnAccess). type_at_place s c.target_type) (find (λ c. is_cast_on s c j) cs) ≡ first_of (targets_on s cs j)
  first_is [] = refl
  first_is (c ∷ cs) = by (is_cast_on s c j) (first_is cs) ∙ sym (ap first_of (targets_more c cs))
    where
      by : (b : Bool) → option_map (λ (c : CastColumnAccess). type_at_place s c.target_type) (find (λ c. is_cast_on s c j) cs) ≡ first_of (targets_on s cs j)
          → option_map (λ (c : CastColumnAccess). type_at_place s c.target_type) (cond b (Some c) (find (λ c. is_cast_on s c j) cs)) ≡ first_of (cond b (type_at_place s c.target_type ∷ targets_on s cs j) (targets_on s cs j))
      by true e = refl
      by false e = e

  first_there : (cs : List CastColumnAccess) (c : CastColumnAccess) → find (λ c. is_cast_on s c j) cs ≡ Some c → c.target_type < length (types_in s)
  first_there [] c e = absurd (let z : ◌≡◌ {A = ℕ} 0 1 = cc in omega arith)
  first_there (x ∷ cs) c e = by (is_cast_on s x j) refl (first_there cs c) e
    where
      by : (b : Bool) → is_cast_on s x j ≡ b → (find (λ c. is_cast_on s c j) cs ≡ Some c → c.target_type < length (types_in s)) → cond b (Some x) (find (λ c. is_cast_on s c j) cs) ≡ Some c → c.target_type < length (types_in s)
      by true t later e = let same : x.target_type ≡ c.target_type = ap (λ (y : CastColumnAccess). y.target_type) (let is : x ≡ c = cc in is) in omega (arith, ltb-true x.target_type (length (types_in s)) (and_parts (ltb x.root_index (length (roots_in s))) (ltb x.target_type (length (types_in s))) (and_parts (is_cast s x) (eqb x.root_index j) t).0).1)
      by false t later e = later e

  pub first_target : (cs : List CastColumnAccess) (o : Option (Bor CastColumnAccess)) (r : Option ℕ) → option_map (λ (x : Bor CastColumnAccess). x.now) o ≡ find (λ c. is_cast_on s c j) cs → r ≡ option_map (λ (x : Bor CastColumnAccess). x.now.target_type) o → FirstTarget s cs j r
  first_target cs None r e t = record {
    is_first = ap (option_map (type_at_place s)) t ∙ ap (option_map (λ (c : CastColumnAccess). type_at_place s c.target_type)) e ∙ first_is cs;
    there = λ goal q. absurd (let z : ◌≡◌ {A = ℕ} 0 1 = cc in omega arith);
  }
  first_target cs (Some c) r e t = record {
    is_first = ap (option_map (type_at_place s)) t ∙ ap (option_map (λ (c : CastColumnAccess). type_at_place s c.target_type)) e ∙ first_is cs;
    there = λ goal q. let same : c.now.target_type ≡ goal = cc in omega (arith, first_there cs c.now (sym e));
  }

  -- a cast that is unlike a type
  pub any_unlike : (place : ℕ) (cs : List CastColumnAccess) → list_any (is_unlike s place j) cs ≡ not (every (same_type (type_at_place s place)) (targets_on s cs j))
  any_unlike place [] = refl
  any_unlike place (c ∷ cs) =
      by (is_cast_on s c j) (same_type (type_at_place s place) (type_at_place s c.target_type)) refl (any_unlike place cs) ∙ sym (ap (λ w. not (every (same_type (type_at_place s place)) w)) (targets_more c cs))
    where
      by : (b d : Bool) → same_type (type_at_place s place) (type_at_place s c.target_type) ≡ d → list_any (is_unlike s place j) cs ≡ not (every (same_type (type_at_place s place)) (targets_on s cs j))
          → ((b && not d) || list_any (is_unlike s place j) cs) ≡ not (every (same_type (type_at_place s place)) (cond b (type_at_place s c.target_type ∷ targets_on s cs j) (targets_on s cs j)))
      by true true t e = e ∙ ap (λ z. not (z && every (same_type (type_at_place s place)) (targets_on s cs j))) (sym t)
      by true false t e = ap (λ z. not (z && every (same_type (type_at_place s place)) (targets_on s cs j))) (sym t)
      by false d t e = e
