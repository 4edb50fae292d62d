-- The elements of a sheet are one whole tree, if there are any. Assumes nothing.
use Rattle.std.proofs.Common.{◌≡◌, ℕ, zero, suc, ◌+◌, ◌-◌, ◌<◌, ◌≤◌, Bool, true, false, cond, ◌&&◌, eqb, ltb, leb, ◌⊎◌, List, [], ◌∷◌, ◌++◌, length, get_or, drop, is_some, Some, None, Option, sym, refl, ap, ◌∙◌, subst, inl, inr, arith}
use Rattle.std.proofs.lemmas.List.{get_or_append_left, get_or-append-add, drop_more}
use Rattle.std.proofs.lemmas.Bool.{and_parts, and_from, eqb-true, leb-true, ltb-false}
use Rattle.rules.specs.Leaves.{leaves_of_roots}
use Rattle.rules.specs.Searches.{first_failing}
use Rattle.rules.specs.Trees.{Tree, node, Forest, none, more, count, size, sizes, depth, depths, levels, levels_in, first_trees, later_trees, first_tree, forest, whole, wholes}
use Rattle.rules.proofs.Forests.{length-levels, sizes_forest}
use Rattle.rules.proofs.Searches.{all_pass}
use Rattle.format.specs.declared.layout.Layout.{Layout}
use Rattle.format.specs.declared.records.ElementRecord.{ElementRecord}
use Rattle.format.specs.Good.{fair_at, fair_element, bad_in}
use Rattle.format.specs.Records.{no_element}
use Rattle.sheet.specs.declared.sheet.Sheet.{Sheet}
use Rattle.sheet.specs.Seen.{elements_in}
use Rattle.directory.specs.Flattened.{element_name, flattened_leaves, leaves_of_tree}

abbrev pub kids : ElementRecord → ℕ
kids e = e.children

-- a tree whose top is at the level d ends where its levels end
module _ {A : Type 0} (m : ℕ) where
  mutual
    depth_low : (d : ℕ) (t : Tree A) → ((p : ℕ) → p < size t → get_or (levels d t) p 0 ≤ m) → d + depth t ≤ m + 1
    depth_low d (node a f) h =
        omega (arith, depths_low (d + 1) f (omega (arith, h 0 (omega arith))) (λ p l. h (suc p) (omega arith)))

    depths_low : (d : ℕ) (f : Forest A) → d ≤ m + 1 → ((p : ℕ) → p < sizes f → get_or (levels_in d f) p 0 ≤ m) → d + depths f ≤ m + 1
    depths_low d none l h = omega arith
    depths_low d (more t f) l h =
        let one : d + depth t ≤ m + 1 = depth_low d t (λ p below. omega (arith, h p (omega arith), get_or_append_left (levels d t) (levels_in d f) 0 p (omega (arith, length-levels d t)))) in
        let rest : d + depths f ≤ m + 1 = depths_low d f l (λ p below.
        let at : size t + p ≡ length (levels d t) + p = omega (arith, length-levels d t) in
        omega (arith, h (size t + p) (omega arith), ap (λ q. get_or (levels d t ++ levels_in d f) q 0) at, get_or-append-add (levels d t) (levels_in d f) p 0)) in
        omega arith

pub record OneTree (es : List ElementRecord) : Type 0 where
  pub tree : Tree ElementRecord
  pub lies : forest kids es ≡ more tree none
  pub all : whole kids tree ≡ true
  pub low : depth tree ≤ 32

module _ (l : Layout) (es : List ElementRecord) where
  nothing_else : (f : Forest ElementRecord) → sizes f ≡ 0 → f ≡ none
  nothing_else none e = refl
  nothing_else (more (node r g) f) e = absurd (omega arith)

  none_found : (o : Option ℕ) → is_some o ≡ false → None ≡ o
  none_found None e = refl
  none_found (Some p) e = let z : ◌≡◌ {A = ℕ} 0 1 = cc in absurd (omega arith)

  abbrev passes : Tree ElementRecord → ℕ → Bool
  passes t p = fair_at (fair_element l) no_element es p && leb (get_or (levels 1 t) p 0) 32

  -- the top is at the first level, and the others have passed
  low_levels : (t : Tree ElementRecord) → size t ≡ length es → None ≡ first_failing (passes t) 1 (length es - 1) → (p : ℕ) → p < size t → get_or (levels 1 t) p 0 ≤ 32
  low_levels (node r f) n e zero h = omega arith
  low_levels (node r f) n e (suc p) h =
      leb-true _ _ (and_parts _ _ (all_pass (passes (node r f)) (length es - 1) 1 e (suc p) (omega arith) (omega arith))).1

  told : (t : Tree ElementRecord) (f : Forest ElementRecord) → forest kids es ≡ more t f → size t + sizes f ≡ length es → (w b : Bool) → whole kids t ≡ w → ltb (size t) (length es) ≡ b → is_some (cond w (cond b (Some (size t)) (first_failing (passes t) 1 (length es - 1))) (Some 0)) ≡ false → OneTree es
  told t f e n true false w b h =
      let last : size t ≡ length es = omega (arith, ltb-false _ _ b) in
      let low = depth_low 32 1 t (low_levels t last (none_found _ h)) in
      record {
        tree = t;
        lies = e ∙ ap (more t) (nothing_else f (omega arith));
        all = w;
        low = omega arith;
      }
  told t f e n true true w b h = let z : ◌≡◌ {A = ℕ} 0 1 = cc in absurd (omega arith)
  told t f e n false b w b' h = let z : ◌≡◌ {A = ℕ} 0 1 = cc in absurd (omega arith)

  by_forest : (f : Forest ElementRecord) → forest kids es ≡ f → sizes f ≡ length es → is_some (bad_in l es (first_tree f)) ≡ false → (length es ≡ 0) ⊎ OneTree es
  by_forest none e n h = inl (sym n)
  by_forest (more t f) e n h = inr (told t f e n (whole kids t) (ltb (size t) (length es)) refl refl h)

pub one_tree : (s : Sheet) → (length (elements_in s) ≡ 0) ⊎ OneTree (elements_in s)
one_tree s = by_forest s.layout (elements_in s) (forest kids (elements_in s)) refl (sizes_forest kids (elements_in s)) s.elements

-- each element has as many trees behind it as it has children
abbrev pub Enough : List ElementRecord → Type 0
Enough [] = Unit {0}
Enough (r ∷ rs) = (r.children ≤ count (forest kids rs)) × Enough rs

wholes_joined : (n : ℕ) (f : Forest ElementRecord) → wholes kids (first_trees n f) ≡ true → wholes kids (later_trees n f) ≡ true → wholes kids f ≡ true
wholes_joined zero f a b = b
wholes_joined (suc n) none a b = refl
wholes_joined (suc n) (more t f) a b = let both = and_parts _ _ a in and_from _ _ both.0 (wholes_joined n f both.1 b)

count_first : (n : ℕ) (f : Forest ElementRecord) → count (first_trees n f) ≤ count f
count_first zero f = omega arith
count_first (suc n) none = omega arith
count_first (suc n) (more t f) = omega (arith, count_first n f)

enough : (es : List ElementRecord) → wholes kids (forest kids es) ≡ true → Enough es
enough [] w = tt
enough (r ∷ rs) w =
    let f = forest kids rs in
    let c = r.children in
    let parts = and_parts (eqb (count (first_trees c f)) c && wholes kids (first_trees c f)) (wholes kids (later_trees c f)) w in
    let top = and_parts (eqb (count (first_trees c f)) c) (wholes kids (first_trees c f)) parts.0 in
    (omega (arith, eqb-true (count (first_trees c f)) c top.0, count_first c f), enough rs (wholes_joined c f top.1 parts.1))

enough_drop : (n : ℕ) (es : List ElementRecord) → Enough es → Enough (drop n es)
enough_drop zero es all = all
enough_drop (suc n) [] all = tt
enough_drop (suc n) (r ∷ rs) all = enough_drop n rs all.1

pub enough_at : (es : List ElementRecord) (e : ℕ) → e < length es → Enough es → (get_or es e no_element).children ≤ count (forest kids (drop (e + 1) es))
enough_at es e h all =
    let here : Enough (get_or es e no_element ∷ drop (e + 1) es) = subst Enough (drop_more es e no_element h) (enough_drop e es all) in
    here.0

-- the top's children are the trees behind it
first_all : (n : ℕ) (f : Forest ElementRecord) → later_trees n f ≡ none → first_trees n f ≡ f
first_all zero f e = sym e
first_all (suc n) none e = refl
first_all (suc n) (more t f) e = ap (more t) (first_all n f e)

below_top : (es : List ElementRecord) (r : ElementRecord) (f : Forest ElementRecord) → forest kids es ≡ more (node r f) none → forest kids (drop 1 es) ≡ f
below_top [] r f e = let z : ◌≡◌ {A = ℕ} 0 1 = cc in absurd (omega arith)
below_top (r' ∷ rs) r f e =
    let first : first_trees r'.children (forest kids rs) ≡ f = cc in
    let later : later_trees r'.children (forest kids rs) ≡ none = cc in
    sym (first_all r'.children (forest kids rs) later) ∙ first

-- what the pass that builds a directory starts from
pub record Starts (s : Sheet) : Type 0 where
  pub enough : Enough (elements_in s)
  pub low : depths (forest kids (drop 1 (elements_in s))) ≤ 31
  pub gives : leaves_of_roots (element_name s) 0 (forest kids (drop 1 (elements_in s))) ≡ flattened_leaves s

starts_empty : (s : Sheet) → elements_in s ≡ [] → Starts s
starts_empty s e = record {
  enough = subst Enough (sym e) tt;
  low = subst (λ es. depths (forest kids (drop 1 es)) ≤ 31) (sym e) (omega arith);
  gives = ap (λ es. leaves_of_roots (element_name s) 0 (forest kids (drop 1 es))) e ∙ sym (ap (λ es. leaves_of_tree s (first_tree (forest kids es))) e);
}

starts_tree : (s : Sheet) (t : Tree ElementRecord) → forest kids (elements_in s) ≡ more t none → whole kids t ≡ true → depth t ≤ 32 → Starts s
starts_tree s (node r f) e w h =
    let below = below_top (elements_in s) r f e in
    record {
      enough = enough (elements_in s) (ap (wholes kids) e ∙ and_from _ _ w refl);
      low = subst (λ g. depths g ≤ 31) (sym below) (omega arith);
      gives = ap (leaves_of_roots (element_name s) 0) below ∙ sym (ap (λ g. leaves_of_tree s (first_tree g)) e);
    }

empty_list : (es : List ElementRecord) → length es ≡ 0 → es ≡ []
empty_list [] e = refl
empty_list (r ∷ rs) e = absurd (omega arith)

pub starts : (s : Sheet) → Starts s
starts s = elim (one_tree s) [
  | inl empty ↦ starts_empty s (empty_list (elements_in s) empty)
  | inr t ↦ starts_tree s t.tree t.lies t.all t.low
]
