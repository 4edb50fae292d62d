-- Writing to what is left of a buffer. Assumes nothing.
use Rattle.std.proofs.Common.{◌≡◌, ℕ, ◌+◌, ◌-◌, ◌≤◌, List, ◌++◌, length, take, drop, replicate, sym, refl, ap, ◌∙◌, arith, length-drop}
use borrow.Rule.Slice.PartMut.{put_mid, same_len_mid}
use Rattle.std.proofs.lemmas.List.{take_all, length-take-le, length-replicate}
use Rattle.std.proofs.lemmas.Slice.{take-put_mid}
use Rattle.rules.specs.RootPlan.{padded}
use Rattle.access.proofs.Prunes.{part_written}

module _ {A : Type 0} where
  -- what stands behind the first n, and the buffer with another list there
  abbrev pub behind : ℕ → List A → List A
  behind n xs = take (length xs - n) (drop n xs)

  abbrev pub put_behind : ℕ → List A → List A → List A
  put_behind n xs ys = put_mid n (length xs - n) xs ys

  pub length-behind : (n : ℕ) (xs : List A) → length (behind n xs) ≡ length xs - n
  length-behind n xs = length-take-le (length xs - n) (drop n xs) (omega (arith, length-drop n xs))

  pub length-put : (at : ℕ) (xs part : List A) → length part ≡ length (behind at xs) → length (put_behind at xs part) ≡ length xs
  length-put at xs part same = same_len_mid at (length xs - at) xs part same

  -- what was written to the front of what stands behind others
  pub written_on : (at n : ℕ) (xs part out : List A) → length part ≡ length (behind at xs) → at + n ≤ length xs → take n part ≡ out → take (at + n) (put_behind at xs part) ≡ take at xs ++ out
  written_on at n xs part out same room e = part_written at n xs part _ (omega arith) (omega (arith, length-behind at xs)) ∙ ap (λ w. take at xs ++ w) e

  -- what was written, and then blanks, is the padded result
  pub pads : (blank : A) (xs ys out : List A) (n room : ℕ) → n ≤ length xs → length xs ≡ room → take n xs ≡ out → ys ≡ replicate (length (behind n xs)) blank → put_behind n xs ys ≡ padded blank out room
  pads blank xs ys out n room low same e f =
      let l = length-take-le n xs low in
      let many : length ys ≡ length (behind n xs) = ap length f ∙ length-replicate (length (behind n xs)) blank in
      let z : length (behind n xs) ≡ room - length out = omega (arith, l, length-behind n xs, ap length e) in
      let whole = same_len_mid n (length xs - n) xs ys many in
      sym (take_all (n + length ys) (put_behind n xs ys) (omega (arith, whole, many, length-behind n xs)))
      ∙ take-put_mid n (length xs - n) xs ys (n + length ys) refl low
      ∙ (λ k. e k ++ (f ∙ ap (λ m. replicate m blank) z) k)
