-- How many leaves are kept. Assumes nothing.
use Rattle.std.proofs.Common.{◌≡◌, ℕ, ◌+◌, ◌≤◌, length, sym, refl, ◌∙◌, arith, length-append}
use Rattle.rules.specs.Keeping.{Keep, all, within, among, Keeps, end, without, with, kept_leaves, kept_leaves_in}
use Rattle.rules.specs.Types.{Ty, leaf, struct, wrap, Fields, empty, field, leaf_count_of, leaf_count_in}
use Rattle.rules.proofs.Written.{length-counting}

-- no more than there are
mutual
  pub kept_fits : (k : Keep) (i : ℕ) (t : Ty) → length (kept_leaves k i t) ≤ leaf_count_of t
  kept_fits all i t = omega (arith, length-counting i (leaf_count_of t))
  kept_fits (within k) i (leaf c) = omega (arith, length-counting i 1)
  kept_fits (within k) i (struct fs) = omega (arith, length-counting i (leaf_count_in fs))
  kept_fits (within k) i (wrap w n b t) = kept_fits k i t
  kept_fits (among ks) i (leaf c) = omega (arith, length-counting i 1)
  kept_fits (among ks) i (struct fs) = kept_fits_in ks i fs
  kept_fits (among ks) i (wrap w n b t) = omega (arith, length-counting i (leaf_count_of t))

  pub kept_fits_in : (ks : Keeps) (i : ℕ) (fs : Fields) → length (kept_leaves_in ks i fs) ≤ leaf_count_in fs
  kept_fits_in end i fs = omega arith
  kept_fits_in (without ks) i empty = omega arith
  kept_fits_in (without ks) i (field n b t fs) = omega (arith, kept_fits_in ks (i + leaf_count_of t) fs)
  kept_fits_in (with k ks) i empty = omega arith
  kept_fits_in (with k ks) i (field n b t fs) =
      omega (arith, length-append (kept_leaves k i t) (kept_leaves_in ks (i + leaf_count_of t) fs), kept_fits k i t, kept_fits_in ks (i + leaf_count_of t) fs)

-- whatever the number of the first one
mutual
  pub kept_alike : (k : Keep) (i j : ℕ) (t : Ty) → length (kept_leaves k i t) ≡ length (kept_leaves k j t)
  kept_alike all i j t = length-counting i (leaf_count_of t) ∙ sym (length-counting j (leaf_count_of t))
  kept_alike (within k) i j (leaf c) = length-counting i 1 ∙ sym (length-counting j 1)
  kept_alike (within k) i j (struct fs) = length-counting i (leaf_count_in fs) ∙ sym (length-counting j (leaf_count_in fs))
  kept_alike (within k) i j (wrap w n b t) = kept_alike k i j t
  kept_alike (among ks) i j (leaf c) = length-counting i 1 ∙ sym (length-counting j 1)
  kept_alike (among ks) i j (struct fs) = kept_alike_in ks i j fs
  kept_alike (among ks) i j (wrap w n b t) = length-counting i (leaf_count_of t) ∙ sym (length-counting j (leaf_count_of t))

  kept_alike_in : (ks : Keeps) (i j : ℕ) (fs : Fields) → length (kept_leaves_in ks i fs) ≡ length (kept_leaves_in ks j fs)
  kept_alike_in end i j fs = refl
  kept_alike_in (without ks) i j empty = refl
  kept_alike_in (without ks) i j (field n b t fs) = kept_alike_in ks (i + leaf_count_of t) (j + leaf_count_of t) fs
  kept_alike_in (with k ks) i j empty = refl
  kept_alike_in (with k ks) i j (field n b t fs) =
      omega (arith, length-append (kept_leaves k i t) (kept_leaves_in ks (i + leaf_count_of t) fs), length-append (kept_leaves k j t) (kept_leaves_in ks (j + leaf_count_of t) fs), kept_alike k i j t, kept_alike_in ks (i + leaf_count_of t) (j + leaf_count_of t) fs)
