-- Trees in a table: what is written is read back, and what is whole can be told from the counts alone. Assumes nothing.
use Rattle.std.proofs.Common.{◌≡◌, ℕ, zero, suc, ◌+◌, Bool, true, false, ◌&&◌, eqb, List, [], ◌∷◌, ◌++◌, length, sym, refl, ap, ◌∙◌, append_assoc, arith, length-append}
use Rattle.std.proofs.lemmas.Bool.{and_parts, eqb-true, ne_eqb}
use Rattle.std.proofs.lemmas.Bool.Decides.{nat_tests}
use Rattle.rules.specs.Trees.{Tree, node, Forest, none, more, count, preorder, preorders, size, sizes, levels, levels_in, first_trees, later_trees, forest, whole, wholes, WrittenRead}

module _ {A : Type 0} where
  -- one forest behind another
  abbrev pub join : Forest A → Forest A → Forest A
  join none g = g
  join (more t f) g = more t (join f g)

  pub join_none : (f : Forest A) → join f none ≡ f
  join_none none = refl
  join_none (more t f) = ap (more t) (join_none f)

  pub count_join : (f g : Forest A) → count (join f g) ≡ count f + count g
  count_join none g = omega arith
  count_join (more t f) g = omega (arith, count_join f g)

  pub first_join : (n : ℕ) (f g : Forest A) → count f ≡ n → first_trees n (join f g) ≡ f
  first_join zero none g e = refl
  first_join zero (more t f) g e = absurd (omega arith)
  first_join (suc n) none g e = absurd (omega arith)
  first_join (suc n) (more t f) g e = ap (more t) (first_join n f g (omega arith))

  pub later_join : (n : ℕ) (f g : Forest A) → count f ≡ n → later_trees n (join f g) ≡ g
  later_join zero none g e = refl
  later_join zero (more t f) g e = absurd (omega arith)
  later_join (suc n) none g e = absurd (omega arith)
  later_join (suc n) (more t f) g e = later_join n f g (omega arith)

  mutual
    pub length-preorder : (t : Tree A) → length (preorder t) ≡ size t
    length-preorder (node a f) = ap suc (length-preorders f)

    pub length-preorders : (f : Forest A) → length (preorders f) ≡ sizes f
    length-preorders none = refl
    length-preorders (more t f) = length-append (preorder t) (preorders f) ∙ omega (arith, length-preorder t, length-preorders f)

  mutual
    pub length-levels : (d : ℕ) (t : Tree A) → length (levels d t) ≡ size t
    length-levels d (node a f) = ap suc (length-levels_in (d + 1) f)

    pub length-levels_in : (d : ℕ) (f : Forest A) → length (levels_in d f) ≡ sizes f
    length-levels_in d none = refl
    length-levels_in d (more t f) = length-append (levels d t) (levels_in d f) ∙ omega (arith, length-levels d t, length-levels_in d f)

  module _ (children : A → ℕ) where
    mutual
      pub reads : WrittenRead children
      reads (node r f) rest w =
          let both = and_parts _ _ w in
          let n : count f ≡ children r = eqb-true _ _ both.0 in
          let inner = reads_all f rest both.1 in
          (λ k. more (node r (first_trees (children r) (inner k))) (later_trees (children r) (inner k)))
          ∙ (λ k. more (node r (first_join (children r) f (forest children rest) n k)) (later_join (children r) f (forest children rest) n k))

      pub reads_all : (f : Forest A) (rest : List A) → wholes children f ≡ true → forest children (preorders f ++ rest) ≡ join f (forest children rest)
      reads_all none rest w = refl
      reads_all (more t f) rest w =
          let both = and_parts _ _ w in
          ap (forest children) (append_assoc (preorder t) (preorders f) rest) ∙ reads t (preorders f ++ rest) both.0 ∙ ap (more t) (reads_all f rest both.1)

    sizes_split : (n : ℕ) (f : Forest A) → sizes (first_trees n f) + sizes (later_trees n f) ≡ sizes f
    sizes_split zero f = omega arith
    sizes_split (suc n) none = omega arith
    sizes_split (suc n) (more t f) = omega (arith, sizes_split n f)

    -- each record stands in the forest once
    pub sizes_forest : (rs : List A) → sizes (forest children rs) ≡ length rs
    sizes_forest [] = refl
    sizes_forest (r ∷ rs) = omega (arith, sizes_split (children r) (forest children rs), sizes_forest rs)

    -- the first n trees are there, and are whole
    abbrev pub whole_first : ℕ → Forest A → Bool
    whole_first zero f = true
    whole_first (suc n) none = false
    whole_first (suc n) (more t f) = whole children t && whole_first n f

    whole_first_lem : (n : ℕ) (f : Forest A) → (eqb (count (first_trees n f)) n && wholes children (first_trees n f)) ≡ whole_first n f
    whole_first_lem zero f = refl
    whole_first_lem (suc n) none = let ne : eqb 0 (suc n) ≡ false = ne_eqb 0 (suc n) (λ e. omega arith) in ap (λ b. b && true) ne
    whole_first_lem (suc n) (more t f) = both (eqb (count (first_trees n f)) n) (whole children t) (wholes children (first_trees n f)) (whole_first_lem n f) (sames (count (first_trees n f)) n)
      where
        sames : (m n : ℕ) → eqb (suc m) (suc n) ≡ eqb m n
        sames m n = grind (arith, nat_tests)

        both : (x y z : Bool) → (x && z) ≡ whole_first n f → {w : Bool} → w ≡ x → (w && (y && z)) ≡ (y && whole_first n f)
        both true true z e h = ap (λ w. w && z) h ∙ e
        both true false z e h = ap (λ w. w && false) h
        both false true z e h = ap (λ w. w && z) h ∙ e
        both false false z e h = ap (λ w. w && false) h

    first_add : (m n : ℕ) (f : Forest A) → whole_first (m + n) f ≡ (whole_first m f && whole_first n (later_trees m f))
    first_add zero n f = let e : 0 + n ≡ n = omega arith in ap (λ k. whole_first k f) e
    first_add (suc m) n none = let e : suc m + n ≡ suc (m + n) = omega arith in ap (λ k. whole_first k none) e
    first_add (suc m) n (more t f) =
        let e : suc m + n ≡ suc (m + n) = omega arith in
        ap (λ k. whole_first k (more t f)) e ∙ ap (λ b. whole children t && b) (first_add m n f) ∙ sym (and_assoc (whole children t) (whole_first m f) (whole_first n (later_trees m f)))
      where
        and_assoc : (x y z : Bool) → ((x && y) && z) ≡ (x && (y && z))
        and_assoc true y z = refl
        and_assoc false y z = refl

    sizes_add : (m n : ℕ) (f : Forest A) → sizes (first_trees (m + n) f) ≡ sizes (first_trees m f) + sizes (first_trees n (later_trees m f))
    sizes_add zero n f = let e : 0 + n ≡ n = omega arith in ap (λ k. sizes (first_trees k f)) e ∙ omega arith
    sizes_add (suc m) n none = let e : suc m + n ≡ suc (m + n) = omega arith in ap (λ k. sizes (first_trees {A = A} k none)) e ∙ none_left n
      where
        none_left : (n : ℕ) → 0 ≡ 0 + sizes {A = A} (first_trees n none)
        none_left zero = omega arith
        none_left (suc n) = omega arith
    sizes_add (suc m) n (more t f) = let e : suc m + n ≡ suc (m + n) = omega arith in ap (λ k. sizes (first_trees k (more t f))) e ∙ omega (arith, sizes_add m n f)

    -- a record is taken from the trees that are still to come, and its children are added to them
    pub one_taken : (r : A) (rs : List A) (n : ℕ) → whole_first (suc n) (forest children (r ∷ rs)) ≡ whole_first (children r + n) (forest children rs)
    one_taken r rs n =
        ap (λ b. b && whole_first n (later_trees (children r) (forest children rs))) (whole_first_lem (children r) (forest children rs))
        ∙ sym (first_add (children r) n (forest children rs))

    pub one_counted : (r : A) (rs : List A) (n : ℕ) → sizes (first_trees (suc n) (forest children (r ∷ rs))) ≡ suc (sizes (first_trees (children r + n) (forest children rs)))
    one_counted r rs n = omega (arith, sizes_add (children r) n (forest children rs))
