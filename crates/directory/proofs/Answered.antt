-- What the rows of a flattened directory answer. Assumes nothing.
use Rattle.std.proofs.Common.{◌≡◌, ℕ, zero, suc, ◌+◌, ◌-◌, ◌<◌, ◌≤◌, List, [], ◌∷◌, map, length, get_or, Some, None, Option, Bor, sym, refl, ap, ◌∙◌, ⊎_elim, subst, arith}
use lib.ListN.{length-map}
use Rattle.std.proofs.lemmas.List.{get_or-map, get_or_append_left, get_or_at, length_push}
use Rattle.std.proofs.lemmas.Option.{slice_get-get_or, slice_get_past, slice_get_read, slice_get-map, slice_get_within, get_or_from_slice_get}
use Rattle.std.specs.Option.{option_copied, option_map, IfSome}
use Rattle.std.specs.Slice.{IsGetResult}
use Rattle.std.proofs.lemmas.Bool.{cases_eq}
use Rattle.std.specs.List.{slice_get}
use Rattle.rules.specs.Leaves.{Leaf}
use Rattle.rules.specs.Names.{Name}
use Rattle.sheet.specs.declared.sheet.Sheet.{Sheet}
use Rattle.sheet.specs.Seen.{elements_in}
use Rattle.directory.specs.declared.flattened.FlattenedDirectory.{FlattenedDirectory}
use Rattle.directory.specs.declared.flattened.rows.ElementRow.{ElementRow}
use Rattle.directory.specs.Flattened.{flattened_leaves}
use Rattle.directory.specs.Rows.{no_row, upward, chain, name_at, path_to, leaf_of_row}

-- one step up
pub up_more : (parents : List ℕ) (n at : ℕ) → 0 < n → upward parents (n - 1) (get_or parents at 0) ≡ upward parents n at
up_more parents zero at h = absurd (omega arith)
up_more parents (suc n) at h = let e : suc n - 1 ≡ n = omega arith in ap (λ m. upward parents m (get_or parents at 0)) e

length-chain : (ps : List ℕ) (n e : ℕ) → length (chain ps n e) ≡ n
length-chain ps zero e = refl
length-chain ps (suc n) e = length_push (chain ps n (get_or ps e 0)) e ∙ omega (arith, length-chain ps n (get_or ps e 0))

chain_at : (ps : List ℕ) (n e j : ℕ) → j < n → get_or (chain ps n e) j 0 ≡ upward ps (n - (j + 1)) e
chain_at ps zero e j h = absurd (omega arith)
chain_at ps (suc n) e j h =
    let before = chain ps n (get_or ps e 0) in
    let long : length before ≡ n = length-chain ps n (get_or ps e 0) in
    ⊎_elim
    (λ same. let last : suc n - (j + 1) ≡ 0 = omega arith in get_or_at before e [] 0 j (long ∙ sym same) ∙ sym (ap (λ m. upward ps m e) last))
    (λ apart.
    let up : suc n - (j + 1) ≡ suc (n - (j + 1)) = omega arith in
    get_or_append_left before (e ∷ []) 0 j (omega arith) ∙ chain_at ps n (get_or ps e 0) j (omega arith) ∙ sym (ap (λ m. upward ps m e) up))
    (cases_eq j n)

-- the paths as a list of their own
module _ (s : Sheet) (ps : List ℕ) where
  abbrev names_up_from : ElementRow → List Name
  names_up_from r = path_to s ps r.parts r.element

  -- the roots and the paths together are the leaves
  joined : (rs : List ElementRow) (ls : List Leaf) → map (λ r. r.root) rs ≡ map (λ l. l.root) ls → map names_up_from rs ≡ map (λ l. l.parts) ls → map (leaf_of_row s ps) rs ≡ ls
  joined [] [] a b = refl
  joined [] (l ∷ ls) a b = let z : ◌≡◌ {A = ℕ} 0 (suc (length ls)) = ap length a ∙ ap suc (length-map ls (λ l. l.root)) in absurd (omega arith)
  joined (r ∷ rs) [] a b = let z : ◌≡◌ {A = ℕ} (suc (length rs)) 0 = sym (ap suc (length-map rs (λ r. r.root))) ∙ ap length a in absurd (omega arith)
  joined (r ∷ rs) (l ∷ ls) a b =
      let p : r.root ≡ l.root = cc in
      let q : names_up_from r ≡ l.parts = cc in
      let a' : map (λ r. r.root) rs ≡ map (λ l. l.root) ls = cc in
      let b' : map names_up_from rs ≡ map (λ l. l.parts) ls = cc in
      λ k. record { root = p k; parts = q k } ∷ joined rs ls a' b' k

  length-path : (n e : ℕ) → length (path_to s ps n e) ≡ n
  length-path n e = length-map (chain ps n e) (name_at s) ∙ length-chain ps n e

  pub path_past : (n e j : ℕ) → n ≤ j → slice_get (path_to s ps n e) j ≡ None
  path_past n e j h = slice_get_past (path_to s ps n e) j (omega (arith, length-path n e))

  pub path_at : (n e j : ℕ) → j < n → slice_get (path_to s ps n e) j ≡ Some (name_at s (upward ps (n - (j + 1)) e))
  path_at n e j h =
      slice_get-get_or (path_to s ps n e) j [] (omega (arith, length-path n e))
      ∙ ap Some (get_or-map (name_at s) (chain ps n e) j 0 [] (omega (arith, length-chain ps n e)) ∙ ap (name_at s) (chain_at ps n e j h))

-- what `get` tells of a list
pub got : {X : Type 0} (xs : List X) (i : ℕ) (o : Option (Bor X)) → IsGetResult xs i i o → option_copied o ≡ slice_get xs i
got xs i None h = sym (slice_get_past xs i h.3)
got xs i (Some x) h = sym (slice_get_read xs (length xs) i x.now refl h.3.0 h.1)

module _ (d : FlattenedDirectory) where
  abbrev s : Sheet
  s = d.sheet.now

  abbrev rows : List ElementRow
  rows = d.rows.items

  abbrev leaf : ElementRow → Leaf
  leaf = leaf_of_row s d.parents

  abbrev ls : List Leaf
  ls = flattened_leaves s

  -- there is a row for each leaf
  pub row_count : length rows ≡ length ls
  row_count = omega (arith, length-map rows (λ r. r.root), length-map ls (λ l. l.root), ap length d.rooted)

  listed : map leaf rows ≡ ls
  listed = joined s d.parents rows ls d.rooted d.led

  -- the row of a leaf
  pub row_is : (i : ℕ) (o : Option ElementRow) → o ≡ slice_get rows i → option_map leaf o ≡ slice_get ls i
  row_is i o e = ap (option_map leaf) e ∙ sym (slice_get-map leaf rows i) ∙ ap (λ w. slice_get w i) listed

  pub row_stands : (i : ℕ) (o : Option ElementRow) → o ≡ slice_get rows i → IfSome o (λ r. (r.element < length (elements_in s)) × (length (path_to s d.parents r.parts r.element) ≡ r.parts))
  row_stands i None e = tt
  row_stands i (Some r) e =
      let h = slice_get_within rows i r (sym e) in
      (subst (λ q. q.element < length (elements_in s)) (get_or_from_slice_get rows i r no_row (sym e)) (d.inside i h), length-path s d.parents r.parts r.element)
