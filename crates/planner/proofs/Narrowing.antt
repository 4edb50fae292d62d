-- Whether the casts on a root can be met by one clip. Assumes nothing.
use Rattle.std.proofs.Common.{◌≡◌, ℕ, ◌<◌, Bool, true, false, cond, not, ◌&&◌, eqb, ltb, List, [], ◌∷◌, length, Some, None, Option, sym, refl, ap, ◌∙◌, arith, subst}
use mathlib.Core.Bool.{beq}
use Rattle.std.proofs.lemmas.Bool.{eq-eqb, eqb-true, and_parts, and_from, ltb-true}
use Rattle.std.specs.Str.{bytes_eq}
use Rattle.rules.specs.Keeping.{kept_leaves, clipped, is_void, is_clipped, clip_count}
use Rattle.rules.specs.Names.{Name}
use Rattle.rules.specs.ReadPlan.{entire, narrowed, is_empty, every}
use Rattle.rules.specs.RootPlan.{is_listed}
use Rattle.rules.specs.Trees.{preorder}
use Rattle.rules.specs.Types.{Ty, leaf, struct, wrap, Fields, empty, field, leaf_count_of, same_type, same_fields, wrapper_kind, wrapper_detail}
use Rattle.format.specs.declared.records.TypeRecord.{TypeRecord}
use Rattle.sheet.specs.declared.sheet.Sheet.{Sheet}
use Rattle.sheet.specs.KeptTrees.{kept_tree}
use Rattle.sheet.specs.SheetExpressions.{type_at_place}
use Rattle.sheet.specs.SheetTrees.{type_tree}
use Rattle.nested.specs.declared.tables.Clip.{Clip}
use Rattle.nested.specs.declared.tables.ClipTable.{ClipTable}
use Rattle.nested.specs.Clips.{clip_at, clip_in, shown}
use Rattle.planner.specs.declared.readings.RootReading.TheVariants.{Narrowed}
use Rattle.planner.specs.declared.readings.Uses.{Uses}
use Rattle.planner.specs.Readings.{by_targets, paths_on, reading_of, Reads}
use Rattle.planner.specs.Targets.{first_of, targets_on, FirstTarget}
use Rattle.access.specs.declared.accesses.CastColumnAccess.{CastColumnAccess}
use Rattle.std.specs.Option.{option_map}

-- the leaves of a clip that is there
abbrev pub leaves_of : Option (List ℕ × List TypeRecord) → List ℕ
leaves_of None = []
leaves_of (Some x) = x.0

-- a type is the same as itself
same_bytes : (n : Name) → bytes_eq n n ≡ true
same_bytes [] = refl
same_bytes (x ∷ n) = and_from _ _ (eq-eqb x x refl) (same_bytes n)

same_flag : (b : Bool) → beq b b ≡ true
same_flag true = refl
same_flag false = refl

mutual
  pub same_self : (t : Ty) → same_type t t ≡ true
  same_self (leaf c) = eq-eqb c c refl
  same_self (struct fs) = same_selves fs
  same_self (wrap w n b t) = and_from _ _ (and_from _ _ (and_from _ _ (eq-eqb (wrapper_kind w) (wrapper_kind w) refl) (eq-eqb (wrapper_detail w) (wrapper_detail w) refl)) (and_from _ _ (same_bytes n) (same_flag b))) (same_self t)

  same_selves : (fs : Fields) → same_fields fs fs ≡ true
  same_selves empty = refl
  same_selves (field n b t fs) = and_from _ _ (and_from _ _ (and_from _ _ (same_bytes n) (same_flag b)) (same_self t)) (same_selves fs)

-- the first target, of the same sheet
pub target_is : {s' s : Sheet} (cs : List CastColumnAccess) (root goal : ℕ) {o : Option ℕ} → s' ≡ s → FirstTarget s' cs root o → o ≡ Some goal → Some (type_at_place s goal) ≡ first_of (targets_on s cs root)
target_is {s'} cs root goal same f e = subst (λ (x : Sheet). Some (type_at_place x goal) ≡ first_of (targets_on x cs root)) same (sym (ap (option_map (type_at_place s')) e) ∙ f.is_first)

-- a root that is not listed
pub unlisted : (s : Sheet) (place n : ℕ) (u : Uses) (root : ℕ) → is_listed u.required.now root ≡ false → reading_of s u root place n ≡ by_targets s place n (targets_on s u.casts.now root) (paths_on s u root)
unlisted s place n u root e = ap (λ b. cond b entire (by_targets s place n (targets_on s u.casts.now root) (paths_on s u root))) e

module _ (s : Sheet) (place n : ℕ) (targets : List Ty) (paths : List (List Name)) where
  module _ (goal : ℕ) (first : Some (type_at_place s goal) ≡ first_of targets) where
    abbrev g : Ty
    g = type_at_place s goal

    abbrev tests : Bool
    tests = is_empty paths && every (same_type g) targets && eqb n (leaf_count_of (type_at_place s place))

    -- what is told by the tests and by the clip, together
    by_first : (ts : List Ty) → Some g ≡ first_of ts → by_targets s place n ts paths ≡ cond ((is_empty paths && every (same_type g) ts && eqb n (leaf_count_of (type_at_place s place))) && is_clipped (type_at_place s place) g) (narrowed g) entire
    by_first [] h = absurd (let z : ◌≡◌ {A = ℕ} 0 1 = cc in omega arith)
    by_first (x ∷ ts) h =
        let is : x ≡ g = cc in
        ap (λ y. by_targets s place n (y ∷ ts) paths) is
        ∙ ap (λ z. cond z (narrowed g) entire) (regroup (is_empty paths) (every (same_type g) ts) (eqb n (leaf_count_of (type_at_place s place))) (is_clipped (type_at_place s place) g))
        ∙ ap (λ z. cond ((is_empty paths && (z && every (same_type g) ts) && eqb n (leaf_count_of (type_at_place s place))) && is_clipped (type_at_place s place) g) (narrowed g) entire) (sym (same_self g))
        ∙ ap (λ y. cond ((is_empty paths && (same_type g y && every (same_type g) ts) && eqb n (leaf_count_of (type_at_place s place))) && is_clipped (type_at_place s place) g) (narrowed g) entire) (sym is)
      where
        regroup : (a b c d : Bool) → (a && (b && (c && d))) ≡ ((a && (true && b) && c) && d)
        regroup true true true d = refl
        regroup true true false d = refl
        regroup true false c d = refl
        regroup false b c d = refl

    abbrev clip : Option (List ℕ × List TypeRecord)
    clip = cond tests (clip_in s place goal) None

    none_of : (a b : Bool) (x : List ℕ × List TypeRecord) → None ≡ cond a (cond b (Some x) None) None → cond (a && b) (narrowed g) entire ≡ entire
    none_of true true x e = absurd (let z : ◌≡◌ {A = ℕ} 0 1 = cc in omega arith)
    none_of true false x e = refl
    none_of false b x e = refl

    pub entire_is : (table : ClipTable) (r : Option Clip) → shown r table ≡ clip → r ≡ None → by_targets s place n targets paths ≡ entire
    entire_is table r e t = by_first targets first ∙ none_of tests (is_clipped (type_at_place s place) g) (kept_leaves (clip_at s place goal) 0 (type_at_place s place), preorder (kept_tree (clip_at s place goal) (type_tree s place))) (ap (λ o. shown o table) (sym t) ∙ e)

    some_of : (a b : Bool) (x y : List ℕ × List TypeRecord) → Some y ≡ cond a (cond b (Some x) None) None → (a ≡ true) × (b ≡ true)
    some_of true true x y e = (refl, refl)
    some_of true false x y e = absurd (let z : ◌≡◌ {A = ℕ} 1 0 = cc in omega arith)
    some_of false b x y e = absurd (let z : ◌≡◌ {A = ℕ} 1 0 = cc in omega arith)

    pub narrowed_is : (table : ClipTable) → Some (table.offsets.items, table.types.items) ≡ clip → Reads s place n paths Narrowed table (by_targets s place n targets paths)
    narrowed_is table e =
        let both = some_of tests (is_clipped (type_at_place s place) g) (kept_leaves (clip_at s place goal) 0 (type_at_place s place), preorder (kept_tree (clip_at s place goal) (type_tree s place))) (table.offsets.items, table.types.items) e in
        let stands : Some (table.offsets.items, table.types.items) ≡ clip_in s place goal = e ∙ ap (λ z. cond z (clip_in s place goal) None) both.0 in
        let even = eqb n (leaf_count_of (type_at_place s place)) in
        let like = every (same_type g) targets in
        let some-kept = ltb 0 (clip_count (type_at_place s place) g) in
        let less-kept = ltb (clip_count (type_at_place s place) g) (leaf_count_of (type_at_place s place)) in
        let same : n ≡ leaf_count_of (type_at_place s place) = eqb-true n (leaf_count_of (type_at_place s place)) (and_parts (is_empty paths && like) even both.0).1 in
        let less : clip_count (type_at_place s place) g < leaf_count_of (type_at_place s place) = ltb-true (clip_count (type_at_place s place) g) (leaf_count_of (type_at_place s place)) (and_parts some-kept less-kept (and_parts (not (is_void (clipped (type_at_place s place) g) (type_at_place s place))) (some-kept && less-kept) both.1).1).1 in
        let some : ◌≡◌ {A = Option (List ℕ × List TypeRecord)} (Some (table.offsets.items, table.types.items)) (Some (kept_leaves (clip_at s place goal) 0 (type_at_place s place), preorder (kept_tree (clip_at s place goal) (type_tree s place)))) = stands ∙ ap (λ z. cond z (Some (kept_leaves (clip_at s place goal) 0 (type_at_place s place), preorder (kept_tree (clip_at s place goal) (type_tree s place)))) None) both.1 in
        let kept : table.offsets.items ≡ kept_leaves (clip_at s place goal) 0 (type_at_place s place) = ap leaves_of some in
        (goal, by_first targets first ∙ ap (λ z. cond (tests && z) (narrowed g) entire) both.1 ∙ ap (λ z. cond (z && true) (narrowed g) entire) both.0, record { stands = stands; fewer = omega (arith, ap length kept, less, same) })
