use Rattle.std.proofs.Common.{◌≡◌, ℕ, ◌+◌, ◌<◌, ◌≤◌, true, false, sym, ap, ◌∙◌, subst, rules, arith}
use Rattle.std.proofs.lemmas.Iterator.{first_from_Range}
use Rattle.std.specs.Option.{option_map, MatchOption}
use Rattle.rules.specs.Searches.{first_failing}
use Rattle.rules.proofs.Searches.{found_first}
use Rattle.format.specs.declared.fault.Fault.TheVariants.{TooMany}
use Rattle.format.specs.Layouts.{few}
use Rattle.format.proofs.layout.Header.check_counts.Goals as goal
use Rattle.format.proofs.layout.Header.check_counts.Goals.{After-find}

-- what was found is the first section that fails
told : (c : After-find) → MatchOption c.find.result ((k : ℕ) → 0 ≤ k → k < 8 → few c.args.self.now.bytes.now k ≡ true) (λ i. (0 ≤ i) × (i < 8) × (few c.args.self.now.bytes.now i ≡ false) × ((k : ℕ) → 0 ≤ k → k < i → few c.args.self.now.bytes.now k ≡ true))
told c = first_from_Range _ _ _ c.find.result (λ k. few c.args.self.now.bytes.now k ≡ false) (λ k. few c.args.self.now.bytes.now k ≡ true) c.find.ensures.ran (λ k f e. search rules) (λ k f e. search rules)

first : (c : After-find) → c.find.result ≡ first_failing (few c.args.self.now.bytes.now) 0 8
first c = found_first (few c.args.self.now.bytes.now) 0 8 c.find.result (told c)

pub returns-in-None : goal.returns-in-None
returns-in-None c = ap (option_map (λ s. TooMany (s + 1))) (sym c.in-None.is ∙ first (goal.at.returns-in-None c).After-find)

pub returns-in-Some : goal.returns-in-Some
returns-in-Some c = ap (option_map (λ s. TooMany (s + 1))) (sym c.in-Some.is ∙ first (goal.at.returns-in-Some c).After-find)

pub overflow_add-result : goal.overflow_add-result
overflow_add-result c =
    let t = subst (λ o. MatchOption o ((k : ℕ) → 0 ≤ k → k < 8 → few c.args.self.now.bytes.now k ≡ true) (λ i. (0 ≤ i) × (i < 8) × (few c.args.self.now.bytes.now i ≡ false) × ((k : ℕ) → 0 ≤ k → k < i → few c.args.self.now.bytes.now k ≡ true))) c.in-Some.is (told (goal.at.overflow_add-result c).After-find) in
    omega (arith, t.1)
