-- The accesses that go on at a level, and what is left of their paths. Assumes nothing.
use Rattle.std.proofs.Common.{◌≡◌, ℕ, ◌+◌, ◌-◌, ◌^◌, ◌<◌, ◌≤◌, min, Bool, true, false, cond, not, ◌&&◌, ◌||◌, eqb, leb, List, [], ◌∷◌, length, get_or, drop, filter, Some, None, sym, refl, ap, ◌∙◌, inl, inr, arith, lit<}
use Rattle.std.proofs.lemmas.List.FromFn.{length-map-range_with_len, get_or-map-range_with_len}
use Rattle.std.proofs.lemmas.List.{get_or_past, drop_more, drop_all}
use Rattle.std.proofs.lemmas.Bool.{cases_lt, lt-ltb, le-ltb, lt-leb, le-leb}
use Rattle.std.specs.List.{list_any}
use Rattle.std.specs.Str.{bytes_eq}
use Rattle.rules.specs.Keeping.{ends_here, onward}
use Rattle.rules.specs.Names.{Name}
use Rattle.rules.specs.ReadPlan.{on, is_empty}
use Rattle.format.specs.Records.{no_node}
use Rattle.sheet.specs.declared.sheet.Sheet.{Sheet}
use Rattle.sheet.specs.Seen.{nodes_in}
use Rattle.sheet.proofs.Sheets.{node_count_lem}
use Rattle.access.specs.declared.accesses.StructFieldAccess.{StructFieldAccess}
use Rattle.access.specs.Accesses.{node_name, path_at, is_access, accesses_in, added}
use Rattle.access.specs.Following.{left, is_on, goes_on}

counts : {A : Type 0} (root r : ℕ) (x : Bool) (p : A) (rest : List (ℕ × A)) → on root (added (cond x (Some (r, p)) None) rest) ≡ cond (x && eqb r root) (p ∷ on root rest) (on root rest)
counts root r true p rest = refl
counts root r false p rest = refl

some_on : {A : Type 0} (b any : Bool) (p : A) (rest : List A) → any ≡ not (is_empty rest) → (b || any) ≡ not (is_empty (cond b (p ∷ rest) rest))
some_on true any p rest h = refl
some_on false any p rest h = h

module _ (s : Sheet) where
  few_nodes : length (nodes_in s) ≤ 512
  few_nodes = omega (arith, node_count_lem s, s.few 6 (lit< tt))

  -- a place that is too large for a number of 64 bits is beyond the nodes, as the largest number is
  pub node_there : (p q : ℕ) → q ≡ min p (2 ^ 64 - 1) → get_or (nodes_in s) q no_node ≡ get_or (nodes_in s) p no_node
  node_there p q e =
      elim (cases_lt p (2 ^ 64 - 1)) [
        | inl h ↦ let same : q ≡ p = omega arith in ap (λ k. get_or (nodes_in s) k no_node) same
        | inr h ↦
            let n = few_nodes in
            get_or_past (nodes_in s) q no_node (omega arith) ∙ sym (get_or_past (nodes_in s) p no_node (omega arith))
      ]

  -- an access that a test lets through, before others
  front : (depth : ℕ) (b : Bool) (a : StructFieldAccess) (xs : List StructFieldAccess) → left s depth (cond b (a ∷ xs) xs) ≡ cond b (drop depth (path_at s a) ∷ left s depth xs) (left s depth xs)
  front depth true a xs = refl
  front depth false a xs = refl

  module _ (root : ℕ) where
    pub all_on : (xs : List StructFieldAccess) → left s 0 (filter (is_on s root) xs) ≡ on root (accesses_in s xs)
    all_on [] = refl
    all_on (a ∷ xs) =
        front 0 (is_on s root a) a (filter (is_on s root) xs)
        ∙ ap (λ w. cond (is_on s root a) (path_at s a ∷ w) w) (all_on xs)
        ∙ sym (counts root a.root_index (is_access s a) (path_at s a) (accesses_in s xs))

    pub any_on : (xs : List StructFieldAccess) → list_any (is_on s root) xs ≡ not (is_empty (on root (accesses_in s xs)))
    any_on [] = refl
    any_on (a ∷ xs) =
        some_on (is_on s root a) (list_any (is_on s root) xs) (path_at s a) (on root (accesses_in s xs)) (any_on xs)
        ∙ ap (λ w. not (is_empty w)) (sym (counts root a.root_index (is_access s a) (path_at s a) (accesses_in s xs)))

  module _ (depth : ℕ) where
    module _ (a : StructFieldAccess) where
      path_long : length (path_at s a) ≡ a.parts
      path_long = length-map-range_with_len (node_name s) a.first_part a.parts

      path_past : a.parts ≤ depth → drop depth (path_at s a) ≡ []
      path_past h = drop_all depth (path_at s a) (omega (arith, path_long))

      path_next : depth < a.parts → drop depth (path_at s a) ≡ node_name s (a.first_part + depth) ∷ drop (depth + 1) (path_at s a)
      path_next h =
          drop_more (path_at s a) depth [] (omega (arith, path_long))
          ∙ ap (λ n. n ∷ drop (depth + 1) (path_at s a)) (get_or-map-range_with_len (node_name s) a.first_part a.parts depth (a.first_part + depth) [] h refl)

    pub any_ends : (xs : List StructFieldAccess) → list_any (λ a. leb a.parts depth) xs ≡ ends_here (left s depth xs)
    any_ends [] = refl
    any_ends (a ∷ xs) =
        elim (cases_lt depth a.parts) [
          | inl h ↦
              ap (λ b. b || list_any (λ x. leb x.parts depth) xs) (lt-leb a.parts depth h) ∙ any_ends xs
              ∙ ap (λ p. ends_here (p ∷ left s depth xs)) (sym (path_next a h))
          | inr h ↦
              ap (λ b. b || list_any (λ x. leb x.parts depth) xs) (le-leb a.parts depth h)
              ∙ ap (λ p. ends_here (p ∷ left s depth xs)) (sym (path_past a h))
        ]

    pub all_onward : (name : Name) (xs : List StructFieldAccess) → left s (depth + 1) (filter (goes_on s depth name) xs) ≡ onward name (left s depth xs)
    all_onward name [] = refl
    all_onward name (a ∷ xs) =
        let go = filter (goes_on s depth name) xs in
        let named = bytes_eq name (node_name s (a.first_part + depth)) in
        let rest = onward name (left s depth xs) in
        elim (cases_lt depth a.parts) [
          | inl h ↦
              ap (λ b. left s (depth + 1) (cond (b && named) (a ∷ go) go)) (lt-ltb depth a.parts h)
              ∙ front (depth + 1) named a go
              ∙ ap (λ w. cond named (drop (depth + 1) (path_at s a) ∷ w) w) (all_onward name xs)
              ∙ ap (λ p. onward name (p ∷ left s depth xs)) (sym (path_next a h))
          | inr h ↦
              ap (λ b. left s (depth + 1) (cond (b && named) (a ∷ go) go)) (le-ltb depth a.parts h)
              ∙ all_onward name xs
              ∙ ap (λ p. onward name (p ∷ left s depth xs)) (sym (path_past a h))
        ]
