-- The passes over the elements. Assumes nothing.
use Rattle.std.proofs.Common.{◌≡◌, ℕ, zero, suc, ◌+◌, ◌-◌, ◌<◌, ◌≤◌, Bool, true, false, cond, ◌&&◌, ltb, leb, List, [], ◌∷◌, ◌++◌, length, get_or, drop, Some, None, Option, sym, refl, ap, ◌∙◌, subst, append_assoc, arith, length-drop}
use Rattle.std.proofs.lemmas.List.{at_drop_all, get_or-drop, drop_more}
use Rattle.std.specs.List.{slice_get}
use Rattle.std.specs.Option.{option_map}
use Rattle.std.proofs.lemmas.Bool.{le-leb, lt-leb, le-ltb, lt-ltb, cond-true, cond-false, leb-true, leb-false}
use Rattle.rules.specs.Searches.{first_failing, earlier}
use Rattle.rules.specs.Trees.{Tree, node, Forest, none, more, size, sizes, levels, levels_in, first_trees, later_trees, first_tree, forest, whole}
use Rattle.rules.proofs.Forests.{whole_first, one_taken, one_counted, length-levels, sizes_forest}
use Rattle.rules.proofs.Searches.{search_on, search_ends, search_over, first_of_both}
use Rattle.format.specs.declared.opens.Open.{Open}
use Rattle.format.specs.declared.records.ElementRecord.{ElementRecord}
use Rattle.format.specs.declared.layout.Layout.{Layout}
use Rattle.format.specs.Good.{whole_end, fair_at, fair_element, bad_in, bad_in_tree, first_bad_element}
use Rattle.format.specs.Opens.{fewer, AllOpen, coming_levels}
use Rattle.format.specs.Records.{no_element}

abbrev kids : ElementRecord → ℕ
kids e = e.children

-- where n trees that stand from i on end, if they are whole
abbrev pub ending : ℕ → ℕ → Forest ElementRecord → Option ℕ
ending i n f = cond (whole_first kids n f) (Some (i + sizes (first_trees n f))) None

module _ (es : List ElementRecord) where
  pub ending_starts : whole_end (first_tree (forest kids es)) ≡ ending 0 1 (forest kids es)
  ending_starts = go (forest kids es)
    where
      go : (f : Forest ElementRecord) → whole_end (first_tree f) ≡ ending 0 1 f
      go none = refl
      go (more t f) = by (whole kids t)
        where
          by : (b : Bool) → cond b (Some (size t)) None ≡ cond (b && true) (Some (0 + (size t + 0))) None
          by true = let e : size t ≡ 0 + (size t + 0) = omega arith in ap Some e
          by false = refl

  module _ (i n c : ℕ) (h : i < length es) (some : 0 < n) (is : c ≡ (get_or es i no_element).children) where
    pub ending_on : {x : Option ℕ} → x ≡ ending i n (forest kids (drop i es)) → x ≡ ending (i + 1) (n - 1 + c) (forest kids (drop (i + 1) es))
    ending_on inv =
        let r = get_or es i no_element in
        let rest = drop (i + 1) es in
        let split : forest kids (drop i es) ≡ forest kids (r ∷ rest) = ap (forest kids) (drop_more es i no_element h) in
        let many : n ≡ suc (n - 1) = omega arith in
        let total : r.children + (n - 1) ≡ n - 1 + c = omega arith in
        let count = one_counted kids r rest (n - 1) in
        let place : i + sizes (first_trees (suc (n - 1)) (forest kids (r ∷ rest))) ≡ i + 1 + sizes (first_trees (r.children + (n - 1)) (forest kids rest)) = omega (arith, count) in
        inv ∙ (λ k. ending i (many k) (split k))
        ∙ (λ k. cond (one_taken kids r rest (n - 1) k) (Some (place k)) None)
        ∙ ap (λ m. ending (i + 1) m (forest kids rest)) total

  pub ending_here : {x : Option ℕ} (i n : ℕ) → n ≡ 0 → x ≡ ending i n (forest kids (drop i es)) → Some i ≡ x
  ending_here i n z inv = let e : i + 0 ≡ i = omega arith in sym (inv ∙ ap (λ m. ending i m (forest kids (drop i es))) z ∙ ap Some e)

  pub ending_never : {x : Option ℕ} (i n : ℕ) → length es ≤ i → 0 < n → x ≡ ending i n (forest kids (drop i es)) → None ≡ x
  ending_never i n h some inv =
      let many : n ≡ suc (n - 1) = omega arith in
      sym (inv ∙ at_drop_all (λ w. ending i n (forest kids w)) es i h ∙ ap (λ m. ending i m none) many)

-- the open elements
all_fewer : (os : List (Open ℕ)) → AllOpen os → AllOpen (fewer os)
all_fewer [] all = tt
all_fewer (o ∷ os) all = by (leb o.left 1) refl
  where
    by : (b : Bool) → leb o.left 1 ≡ b → AllOpen (cond b os (record { left = o.left - 1; told = o.told } ∷ os))
    by true is = all.3
    by false is = (omega (arith, leb-false _ _ is), all.1, all.2, all.3)

length-fewer : (o : Open ℕ) (os : List (Open ℕ)) → length (fewer (o ∷ os)) ≤ suc (length os)
length-fewer o os = by (leb o.left 1)
  where
    by : (b : Bool) → length (cond b os (record { left = o.left - 1; told = o.told } ∷ os)) ≤ suc (length os)
    by true = omega arith
    by false = omega arith

-- the next tree is taken from the one on top
next_levels : {A : Type 0} (o : Open ℕ) (os : List (Open ℕ)) (t : Tree A) (f : Forest A) → 0 < o.left
    → coming_levels (o ∷ os) (more t f) ≡ levels o.told t ++ coming_levels (fewer (o ∷ os)) f
next_levels o os t f some =
    let e : o.left ≡ suc (o.left - 1) = omega arith in
    ap (λ m. levels_in o.told (first_trees m (more t f)) ++ coming_levels os (later_trees m (more t f))) e
    ∙ append_assoc (levels o.told t) (levels_in o.told (first_trees (o.left - 1) f)) (coming_levels os (later_trees (o.left - 1) f))
    ∙ ap (λ w. levels o.told t ++ w) (by (leb o.left 1) refl)
  where
    by : (b : Bool) → leb o.left 1 ≡ b → levels_in o.told (first_trees (o.left - 1) f) ++ coming_levels os (later_trees (o.left - 1) f) ≡ coming_levels (cond b os (record { left = o.left - 1; told = o.told } ∷ os)) f
    by true is = let low = leb-true _ _ is in let z : o.left - 1 ≡ 0 = omega arith in ap (λ m. levels_in o.told (first_trees m f) ++ coming_levels os (later_trees m f)) z
    by false is = refl

drop_tail : {A : Type 0} (p : ℕ) (xs ys : List A) (x : A) → drop p xs ≡ x ∷ ys → drop (p + 1) xs ≡ ys
drop_tail p [] ys x e = absurd (nothing p e)
  where
    nothing : (p : ℕ) → drop p [] ≡ x ∷ ys → ⊥
    nothing zero e = let z : ◌≡◌ {A = ℕ} 0 1 = cc in omega arith
    nothing (suc p) e = let z : ◌≡◌ {A = ℕ} 0 1 = cc in omega arith
drop_tail zero (w ∷ xs) ys x e = let r : xs ≡ ys = cc in r
drop_tail (suc p) (w ∷ xs) ys x e = let s : suc p + 1 ≡ suc (p + 1) = omega arith in ap (λ m. drop m (w ∷ xs)) s ∙ drop_tail p xs ys x e

-- the levels, as far as the pass has come
module _ (es : List ElementRecord) where
  abbrev n : ℕ
  n = length es

  abbrev ok : Tree ElementRecord → ℕ → Bool
  ok t p = leb (get_or (levels 1 t) p 0) 32

  pub record Levelled (p : ℕ) (os : List (Open ℕ)) : Type 0 where
    pub sound : AllOpen os
    pub gives : (t : Tree ElementRecord) → first_tree (forest kids es) ≡ Some t → coming_levels os (forest kids (drop p es)) ≡ drop p (levels 1 t)
    pub rest : (t : Tree ElementRecord) → first_tree (forest kids es) ≡ Some t → first_failing (ok t) 0 n ≡ first_failing (ok t) p (n - p)

  -- where nothing is open, all levels have been told
  pub told_all : (p : ℕ) → Levelled p [] → p < n → (t : Tree ElementRecord) → first_tree (forest kids es) ≡ Some t → size t ≡ n → ⊥
  told_all p s h t e whole_is = omega (arith, ap length (s.gives t e), length-drop p (levels 1 t), length-levels 1 t)

  module _ (p : ℕ) (top : Open ℕ) (under : List (Open ℕ)) (s : Levelled p (top ∷ under)) (h : p < n) where
    abbrev here : ElementRecord
    here = get_or es p no_element

    abbrev behind : Forest ElementRecord
    behind = forest kids (drop (p + 1) es)

    told : (t : Tree ElementRecord) → first_tree (forest kids es) ≡ Some t → drop p (levels 1 t) ≡ top.told ∷ (levels_in (top.told + 1) (first_trees here.children behind) ++ coming_levels (fewer (top ∷ under)) (later_trees here.children behind))
    told t e =
        sym (s.gives t e)
        ∙ ap (λ w. coming_levels (top ∷ under) (forest kids w)) (drop_more es p no_element h)
        ∙ next_levels top under (node here (first_trees here.children behind)) (later_trees here.children behind) s.sound.0

    level_is : (t : Tree ElementRecord) → first_tree (forest kids es) ≡ Some t → get_or (levels 1 t) p 0 ≡ top.told
    level_is t e =
        let z : p + 0 ≡ p = omega arith in
        ap (λ q. get_or (levels 1 t) q 0) (sym z) ∙ sym (get_or-drop p (levels 1 t) 0 0) ∙ ap (λ w. get_or w 0 0) (told t e)

    pub deep_here : 32 < top.told → (t : Tree ElementRecord) → first_tree (forest kids es) ≡ Some t → Some p ≡ first_failing (ok t) 0 n
    deep_here high t e = search_ends (ok t) n p h (lt-leb _ _ (omega (arith, level_is t e))) (s.rest t e)

    still : AllOpen (fewer (top ∷ under))
    still = all_fewer (top ∷ under) s.sound

    pub few_left : length (fewer (top ∷ under)) ≤ top.told
    few_left = omega (arith, length-fewer top under, s.sound.1)

    module _ (c : ℕ) (low : top.told ≤ 32) (is : c ≡ here.children) where
      goes_on : (t : Tree ElementRecord) → first_tree (forest kids es) ≡ Some t → first_failing (ok t) 0 n ≡ first_failing (ok t) (p + 1) (n - (p + 1))
      goes_on t e = search_on (ok t) n p h (le-leb _ _ (omega (arith, level_is t e))) (s.rest t e)

      pub opened : 0 < c → Levelled (p + 1) (record { left = c; told = top.told + 1 } ∷ fewer (top ∷ under))
      opened more_below = record {
        sound = (more_below, omega (arith, few_left), omega arith, still);
        gives = λ t e.
            (λ k. levels_in (top.told + 1) (first_trees (is k) behind) ++ coming_levels (fewer (top ∷ under)) (later_trees (is k) behind))
            ∙ sym (drop_tail p (levels 1 t) _ _ (told t e));
        rest = goes_on;
      }

      pub passed : c ≡ 0 → Levelled (p + 1) (fewer (top ∷ under))
      passed none_below = record {
        sound = still;
        gives = λ t e.
            (λ k. levels_in (top.told + 1) (first_trees (sym none_below k) behind) ++ coming_levels (fewer (top ∷ under)) (later_trees (sym none_below k) behind))
            ∙ (λ k. levels_in (top.told + 1) (first_trees (is k) behind) ++ coming_levels (fewer (top ∷ under)) (later_trees (is k) behind))
            ∙ sym (drop_tail p (levels 1 t) _ _ (told t e));
        rest = goes_on;
      }

  -- the same by the level that is told of the innermost
  abbrev pub innermost : List (Open ℕ) → Option ℕ
  innermost os = option_map (λ (o : Open ℕ). o.told) (slice_get os 0)

  pub none_open : (p : ℕ) (os : List (Open ℕ)) → Levelled p os → None ≡ innermost os → p < n → (t : Tree ElementRecord) → first_tree (forest kids es) ≡ Some t → size t ≡ n → ⊥
  none_open p [] s e = told_all p s
  none_open p (o ∷ os) s e = let z : ◌≡◌ {A = ℕ} 0 1 = cc in absurd (omega arith)

  pub too_deep : (p : ℕ) (os : List (Open ℕ)) → Levelled p os → p < n → (level : ℕ) → Some level ≡ innermost os → 32 < level → (t : Tree ElementRecord) → first_tree (forest kids es) ≡ Some t → Some p ≡ first_failing (ok t) 0 n
  too_deep p [] s h level e high = let z : ◌≡◌ {A = ℕ} 0 1 = cc in absurd (omega arith)
  too_deep p (o ∷ os) s h level e high = let i : level ≡ o.told = cc in deep_here p o os s h (omega (arith, i))

  pub next_open : (p : ℕ) (os : List (Open ℕ)) → Levelled p os → p < n → (level c : ℕ) → Some level ≡ innermost os → level ≤ 32 → c ≡ (get_or es p no_element).children → 0 < c → Levelled (p + 1) (record { left = c; told = level + 1 } ∷ fewer os)
  next_open p [] s h level c e low is some = let z : ◌≡◌ {A = ℕ} 0 1 = cc in absurd (omega arith)
  next_open p (o ∷ os) s h level c e low is some =
      let i : level ≡ o.told = cc in
      subst (λ l. Levelled (p + 1) (record { left = c; told = l + 1 } ∷ fewer (o ∷ os))) (sym i) (opened p o os s h c (omega (arith, i)) is some)

  pub none_opened : (p : ℕ) (os : List (Open ℕ)) → Levelled p os → p < n → (level c : ℕ) → Some level ≡ innermost os → level ≤ 32 → c ≡ (get_or es p no_element).children → c ≡ 0 → Levelled (p + 1) (fewer os)
  none_opened p [] s h level c e low is none_below = let z : ◌≡◌ {A = ℕ} 0 1 = cc in absurd (omega arith)
  none_opened p (o ∷ os) s h level c e low is none_below = let i : level ≡ o.told = cc in passed p o os s h c (omega (arith, i)) is none_below

  pub all_low : (p : ℕ) (os : List (Open ℕ)) → Levelled p os → n ≤ p → (t : Tree ElementRecord) → first_tree (forest kids es) ≡ Some t → None ≡ first_failing (ok t) 0 n
  all_low p os s h t e = search_over (ok t) n p h (s.rest t e)

-- the passes together
module _ (l : Layout) (es : List ElementRecord) where
  pub none_bad : length es ≡ 0 → None ≡ first_bad_element l es
  none_bad e = go es e
    where
      go : (es : List ElementRecord) → length es ≡ 0 → None ≡ first_bad_element l es
      go [] e = refl
      go (r ∷ rs) e = absurd (omega arith)

  first_there : 0 < length es → first_tree (forest kids es) ≡ None → ⊥
  first_there h e = go es h e
    where
      go : (es : List ElementRecord) → 0 < length es → first_tree (forest kids es) ≡ None → ⊥
      go [] h e = omega arith
      go (r ∷ rs) h e = let z : ◌≡◌ {A = ℕ} 0 1 = cc in omega arith

  first_fits : (t : Tree ElementRecord) → first_tree (forest kids es) ≡ Some t → size t ≤ length es
  first_fits t e = go (forest kids es) e (sizes_forest kids es)
    where
      go : (f : Forest ElementRecord) → first_tree f ≡ Some t → sizes f ≡ length es → size t ≤ length es
      go none e n = let z : ◌≡◌ {A = ℕ} 0 1 = cc in absurd (omega arith)
      go (more u f) e n = let s : u ≡ t = cc in subst (λ (w : Tree ElementRecord). size w ≤ length es) s (omega arith)

  abbrev named : ℕ → Bool
  named p = fair_at (fair_element l) no_element es p

  module _ (some : 0 < length es) where
    -- by the tree of element 0, and whether it is whole
    by_tree : (x : Option ℕ) → ((t : Tree ElementRecord) (b : Bool) → first_tree (forest kids es) ≡ Some t → whole kids t ≡ b → x ≡ bad_in_tree l es t) → x ≡ first_bad_element l es
    by_tree x h = go (first_tree (forest kids es)) refl
      where
        go : (o : Option (Tree ElementRecord)) → first_tree (forest kids es) ≡ o → x ≡ bad_in l es o
        go None e = absurd (first_there some e)
        go (Some t) e = h t (whole kids t) e refl

    end_is : {y : Option ℕ} (t : Tree ElementRecord) (b : Bool) → first_tree (forest kids es) ≡ Some t → whole kids t ≡ b → y ≡ whole_end (first_tree (forest kids es)) → y ≡ cond b (Some (size t)) None
    end_is t b e w h = h ∙ ap whole_end e ∙ ap (λ z. cond z (Some (size t)) None) w

    pub not_whole : None ≡ whole_end (first_tree (forest kids es)) → Some 0 ≡ first_bad_element l es
    not_whole h = by_tree (Some 0) (λ t b e w. go t b w (end_is t b e w h))
      where
        go : (t : Tree ElementRecord) (b : Bool) → whole kids t ≡ b → None ≡ cond b (Some (size t)) None → Some 0 ≡ bad_in_tree l es t
        go t true w h = let z : ◌≡◌ {A = ℕ} 0 1 = cc in absurd (omega arith)
        go t false w h = sym (cond-false _ _ _ w)

    whole_is : (x : Option ℕ) (end : ℕ) → Some end ≡ whole_end (first_tree (forest kids es)) → ((t : Tree ElementRecord) → first_tree (forest kids es) ≡ Some t → size t ≡ end → x ≡ cond (ltb (size t) (length es)) (Some (size t)) (first_failing (λ p. named p && leb (get_or (levels 1 t) p 0) 32) 1 (length es - 1))) → x ≡ first_bad_element l es
    whole_is x end h next = by_tree x (λ t b e w. go t b e w (end_is t b e w h))
      where
        go : (t : Tree ElementRecord) (b : Bool) → first_tree (forest kids es) ≡ Some t → whole kids t ≡ b → Some end ≡ cond b (Some (size t)) None → x ≡ bad_in_tree l es t
        go t true e w h = let s : size t ≡ end = cc in next t e s ∙ sym (cond-true _ _ _ w)
        go t false e w h = let z : ◌≡◌ {A = ℕ} 0 1 = cc in absurd (omega arith)

    pub early_end : (end : ℕ) → Some end ≡ whole_end (first_tree (forest kids es)) → end < length es → Some end ≡ first_bad_element l es
    early_end end h low = whole_is (Some end) end h (λ t e s. ap Some (sym s) ∙ sym (cond-true _ _ _ (lt-ltb (size t) (length es) (omega (arith, s)))))

    levels_start : (t : Tree ElementRecord) (n : ℕ) → 0 < n → first_failing (λ p. leb (get_or (levels 1 t) p 0) 32) 0 n ≡ first_failing (λ p. leb (get_or (levels 1 t) p 0) 32) 1 (n - 1)
    levels_start (node r f) n h = let e : n ≡ suc (n - 1) = omega arith in ap (first_failing (λ p. leb (get_or (levels 1 (node r f)) p 0) 32) 0) e

    pub full_end : (end : ℕ) → Some end ≡ whole_end (first_tree (forest kids es)) → length es ≤ end → (x y : Option ℕ) → x ≡ first_failing named 1 (length es - 1)
        → ((t : Tree ElementRecord) → first_tree (forest kids es) ≡ Some t → size t ≡ length es → y ≡ first_failing (λ p. leb (get_or (levels 1 t) p 0) 32) 0 (length es)) → earlier x y ≡ first_bad_element l es
    full_end end h high x y a b = whole_is (earlier x y) end h (λ t e s.
        let fits = first_fits t e in
        let all : size t ≡ length es = omega (arith, s) in
        (λ k. earlier (a k) ((b t e all ∙ levels_start t (length es) some) k))
        ∙ sym (first_of_both named (λ p. leb (get_or (levels 1 t) p 0) 32) (length es - 1) 1)
        ∙ sym (cond-false _ _ _ (le-ltb (size t) (length es) (omega (arith, all)))))
