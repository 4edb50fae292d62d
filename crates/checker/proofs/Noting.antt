-- What a checker's steps note. Assumes nothing.
use Rattle.std.proofs.Common.{◌≡◌, ℕ, ◌+◌, ◌<◌, ◌≤◌, Bool, cond, List, [], ◌∷◌, ◌++◌, map, length, Some, None, sym, refl, ap, ◌∙◌, arith}
use Rattle.std.proofs.lemmas.List.{map_push}
use Rattle.std.proofs.lemmas.Bool.{and_from, lt-ltb, le-leb}
use Rattle.rules.specs.Names.{Name}
use Rattle.rules.specs.Types.{first_named}
use Rattle.rules.specs.Findings.{Finding, through, access_on}
use Rattle.sheet.specs.declared.sheet.Sheet.{Sheet}
use Rattle.sheet.specs.Seen.{types_in, roots_in, nodes_in}
use Rattle.sheet.specs.SheetTrees.{file_in}
use Rattle.sheet.specs.SheetExpressions.{type_at_place}
use Rattle.access.specs.declared.accesses.StructFieldAccess.{StructFieldAccess}
use Rattle.access.specs.declared.accesses.CastColumnAccess.{CastColumnAccess}
use Rattle.access.specs.Accesses.{path_at, access_in, cast_in}
use Rattle.checker.specs.Notes.{Notes, note, noted}
use Rattle.checker.proofs.Rooted.{named_low}

-- first some, and then others
pub noted_append : (n : Notes) (fs gs : List Finding) → noted n (fs ++ gs) ≡ noted (noted n fs) gs
noted_append n [] gs = refl
noted_append n (f ∷ fs) gs = noted_append (note n f) fs gs

-- what is pushed stands behind what was there, by what each record stands for
pushed : {A B : Type 0} (f : A → B) (xs ys : List A) (a : A) (b : B) → ys ≡ xs ++ a ∷ [] → f a ≡ b → map f ys ≡ map f xs ++ b ∷ []
pushed f xs ys a b more e = ap (map f) more ∙ map_push f xs a ∙ ap (λ x. map f xs ++ x ∷ []) e

module _ (s : Sheet) (lists casts : Bool) (n : Notes) (name : Name) (j : ℕ) (named : Some j ≡ first_named name 0 (file_in s)) where
  -- a root that is read along a path
  pub accesses_one : (xs ys : List StructFieldAccess) (a : StructFieldAccess) → ys ≡ xs ++ a ∷ [] → a.root_index ≡ j → a.first_part + a.parts ≤ length (nodes_in s)
      → n.accesses ≡ map (access_in s) xs
      → record { roots = n.roots; accesses = map (access_in s) ys; casts = n.casts; unknowns = n.unknowns; unsupporteds = n.unsupporteds; unpushables = n.unpushables }
      ≡ noted n (access_on (file_in s) lists casts (path_at s a) (first_named name 0 (file_in s)))
  accesses_one xs ys a more root low are =
      let there : a.root_index < length (roots_in s) = omega (arith, named_low s name j (sym named)) in
      let both = and_from _ _ (lt-ltb a.root_index (length (roots_in s)) there) (le-leb (a.first_part + a.parts) (length (nodes_in s)) low) in
      let is : access_in s a ≡ Some (j, path_at s a) = ap (λ b. cond b (Some (a.root_index, path_at s a)) None) both ∙ ap (λ i. Some (i, path_at s a)) root in
      ap (λ w. record { roots = n.roots; accesses = w; casts = n.casts; unknowns = n.unknowns; unsupporteds = n.unsupporteds; unpushables = n.unpushables })
      (pushed (access_in s) xs ys a (Some (j, path_at s a)) more is ∙ ap (λ w. w ++ Some (j, path_at s a) ∷ []) (sym are))
      ∙ ap (λ o. noted n (access_on (file_in s) lists casts (path_at s a) o)) named

-- a root that is read through a cast
pub casts_one : (s : Sheet) (n : Notes) (xs ys : List CastColumnAccess) (a : CastColumnAccess) → ys ≡ xs ++ a ∷ [] → a.root_index < length (roots_in s) → a.target_type < length (types_in s)
    → n.casts ≡ map (cast_in s) xs
    → record { roots = n.roots; accesses = n.accesses; casts = map (cast_in s) ys; unknowns = n.unknowns; unsupporteds = n.unsupporteds; unpushables = n.unpushables }
    ≡ noted n (through a.root_index (type_at_place s a.target_type) ∷ [])
casts_one s n xs ys a more root low are =
    let it = Some (a.root_index, type_at_place s a.target_type) in
    let both = and_from _ _ (lt-ltb a.root_index (length (roots_in s)) root) (lt-ltb a.target_type (length (types_in s)) low) in
    let is : cast_in s a ≡ it = ap (λ b. cond b it None) both in
    ap (λ w. record { roots = n.roots; accesses = n.accesses; casts = w; unknowns = n.unknowns; unsupporteds = n.unsupporteds; unpushables = n.unpushables })
    (pushed (cast_in s) xs ys a it more is ∙ ap (λ w. w ++ it ∷ []) (sym are))
