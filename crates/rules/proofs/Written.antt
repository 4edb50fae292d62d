-- Lists that are written behind a front, and a head that is written into its place last. Assumes nothing.
use Rattle.std.proofs.Common.{◌≡◌, ℕ, zero, suc, ◌+◌, ◌<◌, List, [], ◌∷◌, ◌++◌, length, get_or, take, set, refl, ap, ◌∙◌, append_assoc, arith}
use lib.Seq.{take-set-lt}
use Rattle.std.specs.List.{range_with_len}
use Rattle.std.proofs.lemmas.List.{take_more, set_at, length-take-le}

last : (a n j : ℕ) → a + n ≡ j → range_with_len a (suc n) ≡ range_with_len a n ++ j ∷ []
last a zero j e = let same : a ≡ j = omega arith in ap (λ k. k ∷ []) same
last a (suc n) j e = ap (λ l. a ∷ l) (last (a + 1) n j (omega arith))

pub counting_more : (a n : ℕ) → range_with_len a (n + 1) ≡ range_with_len a n ++ (a + n) ∷ []
counting_more a n = let on : n + 1 ≡ suc n = omega arith in ap (range_with_len a) on ∙ last a n (a + n) refl

pub length-counting : (a n : ℕ) → length (range_with_len a n) ≡ n
length-counting a zero = refl
length-counting a (suc n) = ap suc (length-counting (a + 1) n)

-- a head that is written into its place, in front of what follows it
pub headed : {X : Type 0} (r s : ℕ) (xs ys zs : List X) (h d : X) → s < r → s < length ys → take r xs ≡ take (s + 1) ys ++ zs → take r (set xs s h) ≡ take s ys ++ h ∷ zs
headed r s xs ys zs h d low within e =
    take-set-lt r xs s h low
    ∙ ap (λ l. set l s h) (e ∙ ap (λ l. l ++ zs) (take_more ys s d within) ∙ append_assoc (take s ys) (get_or ys s d ∷ []) zs)
    ∙ set_at (take s ys) (get_or ys s d) zs h s (length-take-le s ys (omega arith))
