-- What a whole clip comes to. Assumes nothing.
use Rattle.std.proofs.Common.{◌≡◌, ℕ, ◌<◌, ◌≤◌, Bool, true, false, cond, not, ◌&&◌, ltb, List, [], ◌++◌, length, Some, None, Option, sym, refl, ap, ◌∙◌, arith}
use Rattle.std.proofs.lemmas.Bool.{lt-ltb, le-ltb}
use Rattle.rules.specs.Keeping.{Keep, kept_leaves, is_void, clip_count}
use Rattle.rules.specs.Trees.{preorder, size}
use Rattle.rules.specs.Types.{Ty, leaf_count_of}
use Rattle.format.specs.declared.records.TypeRecord.{TypeRecord}
use Rattle.sheet.specs.declared.sheet.Sheet.{Sheet}
use Rattle.sheet.specs.Seen.{types_in}
use Rattle.sheet.specs.SheetTrees.{type_tree}
use Rattle.sheet.specs.SheetExpressions.{type_at_place}
use Rattle.sheet.specs.KeptTrees.{kept_tree}
use Rattle.sheet.proofs.Sheets.{few_types, type_size, type_within}
use Rattle.nested.specs.declared.tables.ClipTable.{ClipTable}
use Rattle.nested.specs.Clips.{clip_at, clip_in}
use Rattle.nested.specs.ClipSteps.{Added}
use Rattle.nested.proofs.Counting.{few_leaves_at}
use Rattle.nested.proofs.ClipTurns.{kept, kept_more}
use Rattle.nested.proofs.KeptLeaves.{kept_fits}

-- a table has room for any type
pub leaves_fit : (s : Sheet) (p : ℕ) → p < length (types_in s) → leaf_count_of (type_at_place s p) ≤ 2048
leaves_fit s p h = omega (arith, few_leaves_at s p h, type_size s p h, type_within s p h, few_types s)

pub tree_fits : (s : Sheet) (p : ℕ) → p < length (types_in s) → size (type_tree s p) ≤ 2048
tree_fits s p h = omega (arith, type_within s p h, few_types s)

module _ (s : Sheet) (p g : ℕ) where
  abbrev K : Keep
  K = clip_at s p g

  abbrev T : Ty
  T = type_at_place s p

  abbrev answer : (v some fewer : Bool) → Option (List ℕ × List TypeRecord)
  answer v some fewer = cond (not v && (some && fewer)) (Some (kept_leaves K 0 T, preorder (kept_tree K (type_tree s p)))) None

  pub clip_void : true ≡ is_void K T → None ≡ clip_in s p g
  clip_void v = ap (λ b. answer b (ltb 0 (clip_count T (type_at_place s g))) (ltb (clip_count T (type_at_place s g)) (leaf_count_of T))) v

  module _ (before : ClipTable) (is : ℕ) (after : ClipTable) (no_offsets : before.offsets.items ≡ []) (no_types : before.types.items ≡ []) (added : Added K T (type_tree s p) 0 before is after) (sound : false ≡ is_void K T) where
    counted : kept after ≡ clip_count T (type_at_place s g)
    counted = omega (arith, kept_more added, ap length no_offsets)

    passed : is ≡ leaf_count_of T
    passed = omega (arith, added.passed)

    is_so : (some fewer : Bool) → ltb 0 (clip_count T (type_at_place s g)) ≡ some → ltb (clip_count T (type_at_place s g)) (leaf_count_of T) ≡ fewer → answer false some fewer ≡ clip_in s p g
    is_so some fewer a b = λ i. answer (sound i) (sym a i) (sym b i)

    and_false : (b : Bool) → (b && false) ≡ false
    and_false true = refl
    and_false false = refl

    pub clip_none : kept after ≡ 0 → None ≡ clip_in s p g
    clip_none z = is_so false _ (le-ltb 0 (clip_count T (type_at_place s g)) (omega (arith, counted))) refl

    pub clip_all : kept after ≡ is → None ≡ clip_in s p g
    clip_all e =
        ap (λ b. cond b (Some (kept_leaves K 0 T, preorder (kept_tree K (type_tree s p)))) None) (sym (and_false (ltb 0 (clip_count T (type_at_place s g)))))
        ∙ is_so (ltb 0 (clip_count T (type_at_place s g))) false refl (le-ltb (clip_count T (type_at_place s g)) (leaf_count_of T) (omega (arith, counted, passed)))

    pub clip_some : (kept after ≡ 0 → ⊥) → (kept after ≡ is → ⊥) → Some (after.offsets.items, after.types.items) ≡ clip_in s p g
    clip_some a b =
        (λ i. Some ((added.offsets ∙ ap (λ l. l ++ kept_leaves K 0 T) no_offsets) i, (added.types ∙ ap (λ l. l ++ preorder (kept_tree K (type_tree s p))) no_types) i))
        ∙ is_so true true (lt-ltb 0 (clip_count T (type_at_place s g)) (omega (arith, counted, a))) (lt-ltb (clip_count T (type_at_place s g)) (leaf_count_of T) (omega (arith, counted, passed, b, kept_fits K 0 T)))
