-- The law of clipping: which leaves a clip keeps, by the pairs that are kept entire. Assumes nothing.
use Rattle.std.specs.Prelude.{◌≡◌, ℕ, ◌+◌, ◌<◌, ◌≤◌, Bool, true, false, map, Some, slice_index}
use Rattle.rules.specs.Keeping.{kept_type, kept_leaves, clipped}
use Rattle.rules.specs.Names.{Name}
use Rattle.rules.specs.RootPlan.{is_listed}
use Rattle.rules.specs.Types.{Ty, leaf, struct, wrap, Wrapper, Fields, field, leaf_codes, leaf_count_of, type_named, both_lists}

-- a pair that clipping goes into: two Structs, two List or two LargeList
abbrev pub is_pair : Ty → Ty → Bool
is_pair (leaf c) g = false
is_pair (struct fs) (leaf d) = false
is_pair (struct fs) (struct gs) = true
is_pair (struct fs) (wrap v m e u) = false
is_pair (wrap w n b t) (leaf d) = false
is_pair (wrap w n b t) (struct gs) = false
is_pair (wrap w n b t) (wrap v m e u) = both_lists w v

-- among fields whose first leaf has the number i, one of a name and a type, whose first leaf has the number k
pub data Child : Fields → ℕ → Name → Ty → ℕ → Type 0 where
  this : {n : Name} {b : Bool} {t : Ty} {fs : Fields} {i : ℕ} → Child (field n b t fs) i n t i
  later : {n m : Name} {b : Bool} {t u : Ty} {fs : Fields} {i k : ℕ} → Child fs (i + leaf_count_of t) m u k → Child (field n b t fs) i m u k

-- The leaf number x lies below a pair that is kept entire, where the physical type's first leaf has the number i, and each
-- physical child is paired with the first target field of its name.
pub data Below : Ty → Ty → ℕ → ℕ → Type 0 where
  kept : {t g : Ty} {i x : ℕ} → is_pair t g ≡ false → i ≤ x → x < i + leaf_count_of t → Below t g i x
  items : {w v : Wrapper} {n m : Name} {b e : Bool} {t u : Ty} {i x : ℕ} → both_lists w v ≡ true → Below t u i x → Below (wrap w n b t) (wrap v m e u) i x
  fields : {fs gs : Fields} {n : Name} {t g : Ty} {i k x : ℕ} → Child fs i n t k → type_named n gs ≡ Some g → Below t g k x → Below (struct fs) (struct gs) i x

pub record ClippedExactly (t g : Ty) : Type 0 where
  pub only : (x : ℕ) → is_listed (kept_leaves (clipped t g) 0 t) x ≡ true → Below t g 0 x
  pub every : (x : ℕ) → Below t g 0 x → is_listed (kept_leaves (clipped t g) 0 t) x ≡ true
  -- the clipped type has exactly these leaves, in order
  pub leaves : leaf_codes (kept_type (clipped t g) t) ≡ map (λ x. slice_index (leaf_codes t) x) (kept_leaves (clipped t g) 0 t)

abbrev pub ClipsExact : Type 0
ClipsExact = (t g : Ty) → ClippedExactly t g
