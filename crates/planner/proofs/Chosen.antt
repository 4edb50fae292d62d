-- The leaves of the listed roots. Assumes nothing.
use Rattle.std.proofs.Common.{◌≡◌, ℕ, ◌+◌, ◌<◌, ◌≤◌, Bool, true, false, cond, List, [], ◌∷◌, ◌++◌, length, get_or, take, drop, set, Some, None, sym, ap, ◌∙◌, append_assoc, append-nil, arith}
use Rattle.std.proofs.lemmas.List.{at_drop_more, at_drop_all, take_more_set}
use Rattle.rules.specs.Leaves.{Leaf, root_at}
use Rattle.rules.specs.RootPlan.{is_listed, leaves_of_listed}
use Rattle.planner.specs.Segments.{no_leaf}
use Rattle.planner.proofs.Runs.{root_told}

module _ (listed : List ℕ) (ls : List Leaf) where
  abbrev all : List ℕ
  all = leaves_of_listed listed 0 ls

  abbrev from : ℕ → List ℕ
  from i = leaves_of_listed listed i (drop i ls)

  -- the leaf i, and those behind it
  split : (i r : ℕ) (b : Bool) → i < length ls → Some r ≡ root_at ls i → b ≡ is_listed listed r → from i ≡ cond b (i ∷ from (i + 1)) (from (i + 1))
  split i r b h e t =
      let s : from i ≡ cond (is_listed listed (get_or ls i no_leaf).root) (i ∷ from (i + 1)) (from (i + 1)) = at_drop_more (leaves_of_listed listed i) ls i no_leaf h in
      let known = root_told ls i h in
      let is : (get_or ls i no_leaf).root ≡ r = cc in
      s ∙ ap (λ x. cond (is_listed listed x) (i ∷ from (i + 1)) (from (i + 1))) is ∙ ap (λ z. cond z (i ∷ from (i + 1)) (from (i + 1))) (sym t)

  pub taken : (out : List ℕ) (n i r : ℕ) → n < length out → i < length ls → Some r ≡ root_at ls i → true ≡ is_listed listed r → take n out ++ from i ≡ all → take (n + 1) (set out n i) ++ from (i + 1) ≡ all
  taken out n i r room h e t inv =
      ap (λ w. w ++ from (i + 1)) (take_more_set out n i room) ∙ append_assoc (take n out) (i ∷ []) (from (i + 1))
      ∙ ap (λ w. take n out ++ w) (sym (split i r true h e t)) ∙ inv

  pub passed : (out : List ℕ) (n i r : ℕ) → i < length ls → Some r ≡ root_at ls i → false ≡ is_listed listed r → take n out ++ from i ≡ all → take n out ++ from (i + 1) ≡ all
  passed out n i r h e t inv = ap (λ w. take n out ++ w) (sym (split i r false h e t)) ∙ inv

  -- there is a leaf at each number below the length
  pub there : (i : ℕ) → i < length ls → None ≡ root_at ls i → ⊥
  there i h e = let known = root_told ls i h in let z : ◌≡◌ {A = ℕ} 0 1 = cc in omega arith

  pub chosen : (out : List ℕ) (n i : ℕ) → length ls ≤ i → take n out ++ from i ≡ all → take n out ≡ all
  chosen out n i end inv = sym (append-nil (take n out)) ∙ ap (λ w. take n out ++ w) (sym (at_drop_all (leaves_of_listed listed i) ls i end)) ∙ inv
