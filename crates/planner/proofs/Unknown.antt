-- The first listed root that the file lacks. Assumes nothing.
use Rattle.std.proofs.Common.{◌≡◌, ℕ, ◌-◌, ◌<◌, ◌≤◌, Bool, true, false, ltb, List, length, get_or, Some, None, Option, ◌∙◌, arith}
use Rattle.std.proofs.lemmas.Bool.{lt-ltb, le-ltb}
use Rattle.std.specs.List.{AllWithin, HoldsAt}
use Rattle.std.specs.Option.{MatchOption}
use Rattle.rules.specs.Searches.{first_failing}
use Rattle.rules.proofs.Searches.{found_first}

module _ (n : ℕ) (xs : List ℕ) where
  abbrev ok : ℕ → ℕ → Bool
  ok m k = ltb (get_or xs k 0) m

  first_over : (r : Option ℕ) → MatchOption r (AllWithin (λ x. x < n) xs 0 (length xs)) (λ i. (i < length xs) × HoldsAt (λ x. n ≤ x) xs i × AllWithin (λ x. x < n) xs 0 i)
      → MatchOption r ((k : ℕ) → 0 ≤ k → k < length xs → ok n k ≡ true) (λ i. (0 ≤ i) × (i < length xs) × (ok n i ≡ false) × ((k : ℕ) → 0 ≤ k → k < i → ok n k ≡ true))
  first_over None h = λ k l u. lt-ltb (get_or xs k 0) n (h k 0 l u)
  first_over (Some i) h = (omega arith, h.0, le-ltb (get_or xs i 0) n (h.1 0), λ k l u. lt-ltb (get_or xs k 0) n (h.2 k 0 l u))

  pub first_unknown : (m : ℕ) (r : Option ℕ) → n ≡ m → MatchOption r (AllWithin (λ x. x < n) xs 0 (length xs)) (λ i. (i < length xs) × HoldsAt (λ x. n ≤ x) xs i × AllWithin (λ x. x < n) xs 0 i) → r ≡ first_failing (ok m) 0 (length xs)
  first_unknown m r e h =
      let z : length xs - 0 ≡ length xs = omega arith in
      found_first (ok n) 0 (length xs) r (first_over r h) ∙ (λ k. first_failing (ok (e k)) 0 (z k))
