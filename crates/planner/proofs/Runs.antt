-- The leaves of one root stand one behind the other, since roots never fall. Assumes nothing.
use Rattle.std.proofs.Common.{◌≡◌, ℕ, zero, suc, ◌+◌, ◌-◌, ◌<◌, ◌≤◌, cond, eqb, ◌≢◌, List, [], ◌∷◌, ◌++◌, map, length, get_or, drop, Some, None, Option, unwrap_or, refl, ap, ◌∙◌, subst, inl, inr, append-nil, arith}
use lib.ListN.{length-map}
use Rattle.std.proofs.lemmas.List.{at_drop_more, at_drop_all, get_or-map}
use Rattle.std.proofs.lemmas.Option.{slice_get-get_or}
use Rattle.std.proofs.lemmas.Bool.{eq-eqb, ne_eqb, cases_lt, cond-true, cond-false}
use Rattle.std.specs.List.{range_with_len}
use Rattle.std.specs.Option.{MatchOption, option_map}
use Rattle.rules.specs.Leaves.{Leaf, roots, root_at, NeverFalls}
use Rattle.rules.specs.ReadPlan.{leaves_on}
use Rattle.planner.specs.Segments.{no_leaf, segment, root_of as root_in, Run as Run-in}

module _ (ls : List Leaf) where
  abbrev root_of : ℕ → ℕ
  root_of i = root_in ls i

  abbrev Run : ℕ → ℕ → ℕ → Type 0
  Run j leaf end = Run-in ls j leaf end

  pub root_told : (i : ℕ) → i < length ls → root_at ls i ≡ Some (root_of i)
  root_told i h = ap (option_map (λ (l : Leaf). l.root)) (slice_get-get_or ls i no_leaf h)

  -- the leaf i, among those of root j
  here : (j i : ℕ) → i < length ls → leaves_on j i (drop i ls) ≡ cond (eqb (root_of i) j) ((i, get_or ls i no_leaf) ∷ leaves_on j (i + 1) (drop (i + 1) ls)) (leaves_on j (i + 1) (drop (i + 1) ls))
  here j i h = at_drop_more (leaves_on j i) ls i no_leaf h

  pub others_before : (j a : ℕ) → a ≤ length ls → ((i : ℕ) → i < a → root_of i ≡ j → ⊥) → leaves_on j 0 ls ≡ leaves_on j a (drop a ls)
  others_before j zero h other = refl
  others_before j (suc a) h other =
      let z : a + 1 ≡ suc a = omega arith in
      others_before j a (omega arith) (λ i l. other i (omega arith))
      ∙ here j a (omega arith)
      ∙ cond-false _ _ _ (ne_eqb (root_of a) j (other a (omega arith)))
      ∙ ap (λ q. leaves_on j q (drop q ls)) z

  run : (j a n : ℕ) → a + n ≤ length ls → ((i : ℕ) → a ≤ i → i < a + n → root_of i ≡ j) → leaves_on j a (drop a ls) ≡ map (λ i. (i, get_or ls i no_leaf)) (range_with_len a n) ++ leaves_on j (a + n) (drop (a + n) ls)
  run j a zero h own = let z : a ≡ a + 0 = omega arith in ap (λ q. leaves_on j q (drop q ls)) z
  run j a (suc n) h own =
      let z : a + 1 + n ≡ a + suc n = omega arith in
      here j a (omega arith)
      ∙ cond-true _ _ _ (eq-eqb (root_of a) j (own a (omega arith) (omega arith)))
      ∙ ap (λ w. (a, get_or ls a no_leaf) ∷ w) (run j (a + 1) n (omega arith) (λ i l m. own i (omega arith) (omega arith)) ∙ ap (λ q. map (λ i. (i, get_or ls i no_leaf)) (range_with_len (a + 1) n) ++ leaves_on j q (drop q ls)) z)

  others_behind : (j e n : ℕ) → e + n ≡ length ls → ((i : ℕ) → e ≤ i → i < length ls → root_of i ≡ j → ⊥) → leaves_on j e (drop e ls) ≡ []
  others_behind j e zero h other = at_drop_all (leaves_on j e) ls e (omega arith)
  others_behind j e (suc n) h other =
      here j e (omega arith)
      ∙ cond-false _ _ _ (ne_eqb (root_of e) j (other e (omega arith) (omega arith)))
      ∙ others_behind j (e + 1) n (omega arith) (λ i l m. other i (omega arith) m)

  -- Where a reader of the leaves is who has passed those of the roots below j.
  pub record At (j leaf : ℕ) : Type 0 where
    pub within : leaf ≤ length ls
    pub passed : (i : ℕ) → i < leaf → root_of i < j
    pub ahead : (i : ℕ) → leaf ≤ i → i < length ls → j ≤ root_of i

  pub at_start : At 0 0
  at_start = record { within = omega arith; passed = λ i h. absurd (omega arith); ahead = λ i h l. omega arith }

  module _ (rising : NeverFalls (roots ls)) where
    root_list : (i : ℕ) → i < length ls → get_or (roots ls) i 0 ≡ root_of i
    root_list i h = get_or-map (λ (l : Leaf). l.root) ls i no_leaf 0 h

    rises : (i n : ℕ) → i + n < length ls → root_of i ≤ root_of (i + n)
    rises i zero h = let z : i ≡ i + 0 = omega arith in subst (λ q. root_of i ≤ root_of q) z (omega arith)
    rises i (suc n) h =
        let long = length-map ls (λ (l : Leaf). l.root) in
        let step = rising (i + n) (omega (arith, long)) in
        let z : i + n + 1 ≡ i + suc n = omega arith in
        subst (λ q. root_of i ≤ root_of q) z (omega (arith, rises i n (omega arith), step, root_list (i + n) (omega arith), root_list (i + n + 1) (omega arith)))

    module _ (j leaf end : ℕ) (a : At j leaf) (r : Run j leaf end) where
      behind : (i : ℕ) → end ≤ i → i < length ls → suc j ≤ root_of i
      behind i l h =
          let n : end + (i - end) ≡ i = omega arith in
          let up : root_of end ≤ root_of i = subst (λ q. root_of end ≤ root_of q) n (rises end (i - end) (omega arith)) in
          let low = a.ahead end r.forth (omega arith) in
          let other : root_of end ≡ j → ⊥ = r.over (omega arith) in
          omega (arith, up, low, other)

      pub at_next : At (j + 1) end
      at_next = record {
        within = r.within;
        passed = λ i h. elim (cases_lt i leaf) [ inl x ↦ omega (arith, a.passed i x) | inr x ↦ omega (arith, r.own i x h) ];
        ahead = λ i l h. omega (arith, behind i l h);
      }

      -- the leaves of root j are those from `leaf` to `end`
      pub own_leaves : leaves_on j 0 ls ≡ segment ls leaf end
      own_leaves =
          let n : leaf + (end - leaf) ≡ end = omega (arith, r.forth) in
          others_before j leaf a.within (λ i h e. omega (arith, a.passed i h))
          ∙ run j leaf (end - leaf) (omega (arith, n, r.within)) (λ i l m. r.own i l (omega (arith, n)))
          ∙ ap (λ q. segment ls leaf end ++ leaves_on j q (drop q ls)) n
          ∙ ap (λ w. segment ls leaf end ++ w) (others_behind j end (length ls - end) (omega (arith, r.within)) (λ i l h e. omega (arith, behind i l h)))
          ∙ append-nil (segment ls leaf end)

  -- where a search for the end of a run stops
  pub run_found : (j leaf count : ℕ) (found : Option ℕ) → count ≡ length ls → leaf ≤ length ls
      → MatchOption found ((i : ℕ) → leaf ≤ i → i < count → root_at ls i ≡ Some j) (λ end. (leaf ≤ end) × (end < count) × (root_at ls end ≢ Some j) × ((i : ℕ) → leaf ≤ i → i < end → root_at ls i ≡ Some j))
      → Run j leaf (unwrap_or found count)
  run_found j leaf count None all low f = record {
    forth = omega arith;
    within = omega arith;
    own = λ i l h. let it = root_told i (omega arith) in let is = f i l h in cc;
    over = λ h. absurd (omega arith);
  }
  run_found j leaf count (Some end) all low f = record {
    forth = f.0;
    within = omega (arith, f.1);
    own = λ i l h. let it = root_told i (omega (arith, f.1)) in let is = f.3 i l h in cc;
    over = λ h same. f.2 (root_told end h ∙ ap Some same);
  }
