-- The root that a name means. Assumes nothing.
use Rattle.std.proofs.Common.{◌≡◌, ℕ, zero, suc, ◌+◌, ◌<◌, ◌≤◌, true, false, cond, length, get_or, drop, Some, None, Option, sym, refl, ap, ◌∙◌, add-one, arith}
use lib.ListN.{length-map}
use Rattle.std.proofs.lemmas.List.{at_drop_more, at_drop_all, get_or-map}
use Rattle.std.specs.Option.{MatchOption}
use Rattle.std.specs.Str.{bytes_eq}
use Rattle.rules.specs.Names.{Name}
use Rattle.rules.specs.Trees.{Tree, node, none, label}
use Rattle.rules.specs.Types.{first_named}
use Rattle.format.specs.declared.records.RootRecord.{RootRecord}
use Rattle.format.specs.declared.records.TypeRecord.{TypeRecord}
use Rattle.format.specs.Records.{name_bytes, no_root, no_type}
use Rattle.sheet.specs.declared.sheet.Sheet.{Sheet}
use Rattle.sheet.specs.Seen.{names_in, roots_in}
use Rattle.sheet.specs.SheetTrees.{type_tree, root_trees, root_name, file_from, file_in}
use Rattle.sheet.proofs.Sheets.{root_place, type_label}

module _ (s : Sheet) (name : Name) where
  abbrev rest : ℕ → Option ℕ
  rest r = first_named name r (file_from (names_in s) (drop r (root_trees s)))

  abbrev place : ℕ → ℕ
  place r = (get_or (roots_in s) r no_root).type_place

  long : length (root_trees s) ≡ length (roots_in s)
  long = length-map (roots_in s) (λ (r : RootRecord). type_tree s r.type_place)

  -- the root r, and those behind it
  split : (r : ℕ) → r < length (roots_in s) → rest r ≡ cond (bytes_eq (root_name s r) name) (Some r) (rest (r + 1))
  split r h =
      let blank = node no_type none in
      let step : rest r ≡ cond (bytes_eq (name_bytes (names_in s) (label (get_or (root_trees s) r blank)).name) name) (Some r) (rest (r + 1)) = at_drop_more (λ w. first_named name r (file_from (names_in s) w)) (root_trees s) r blank (omega (arith, long)) in
      let tree = get_or-map (λ (x : RootRecord). type_tree s x.type_place) (roots_in s) r no_root blank h in
      let same = ap (λ (t : Tree TypeRecord). name_bytes (names_in s) (label t).name) tree ∙ ap (λ (t : TypeRecord). name_bytes (names_in s) t.name) (type_label s (place r) (root_place s r h)) in
      step ∙ ap (λ w. cond (bytes_eq w name) (Some r) (rest (r + 1))) same

  -- where none of the first r roots bears the name, the others decide
  reach : (r : ℕ) → r ≤ length (roots_in s) → ((k : ℕ) → k < r → bytes_eq (root_name s k) name ≡ false) → first_named name 0 (file_in s) ≡ rest r
  reach zero h no_one = refl
  reach (suc r) h no_one =
      reach r (omega arith) (λ k b. no_one k (omega arith)) ∙ split r (omega arith)
      ∙ ap (λ z. cond z (Some r) (rest (r + 1))) (no_one r (omega arith)) ∙ ap rest (add-one r)

  pub named : (n : ℕ) (o : Option ℕ) → n ≡ length (roots_in s)
      → MatchOption o ((k : ℕ) → 0 ≤ k → k < n → bytes_eq (root_name s k) name ≡ false) (λ r. (0 ≤ r) × (r < n) × (bytes_eq (root_name s r) name ≡ true) × ((k : ℕ) → 0 ≤ k → k < r → bytes_eq (root_name s k) name ≡ false))
      → o ≡ first_named name 0 (file_in s)
  named n None e h =
      sym (reach n (omega arith) (λ k b. h k (omega arith) b) ∙ at_drop_all (λ w. first_named name n (file_from (names_in s) w)) (root_trees s) n (omega (arith, long)))
  named n (Some r) e h =
      sym (reach r (omega (arith, h.1)) (λ k b. h.3 k (omega arith) b) ∙ split r (omega (arith, h.1)) ∙ ap (λ z. cond z (Some r) (rest (r + 1))) h.2)
