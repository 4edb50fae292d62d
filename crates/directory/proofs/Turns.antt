-- The turns of the pass that builds a flattened directory. Assumes nothing.
use Rattle.std.proofs.Common.{◌≡◌, ℕ, zero, suc, ◌+◌, ◌<◌, ◌≤◌, ◌≢◌, List, [], ◌∷◌, ◌++◌, map, length, get_or, set, replicate, sym, refl, ap, ◌∙◌, subst, ⊎_elim, append_assoc, append-nil, arith, length-set}
use Rattle.std.proofs.lemmas.List.{get_or-set_same, get_or-set_other, get_or_append_left, get_or_at, at_drop_all, map_push, length_push}
use Rattle.std.proofs.lemmas.Bool.{cases_eq}
use Rattle.rules.specs.Leaves.{roots}
use Rattle.rules.specs.Trees.{depths, first_trees, later_trees, forest}
use Rattle.format.specs.declared.opens.Open.{Open}
use Rattle.format.specs.Opens.{fewer}
use Rattle.sheet.proofs.Sheets.{few_elements}
use Rattle.sheet.specs.declared.sheet.Sheet.{Sheet}
use Rattle.sheet.specs.Seen.{elements_in}
use Rattle.directory.specs.declared.flattened.rows.ElementRow.{ElementRow}
use Rattle.directory.specs.declared.flattened.rows.Seat.{Seat}
use Rattle.directory.specs.Building.{AllOpen}
use Rattle.directory.specs.Flattened.{flattened_leaves}
use Rattle.directory.specs.Rows.{no_row, path_to, leaf_of_row, RowsInside, ParentsInside}
use Rattle.directory.proofs.ComingLeaves.{Shallow, Lower, lower_next, coming_leaves, coming_none, record_at, trees_from, tree_from, trees_after, trees_split, opened, passed}
use Rattle.directory.proofs.ElementTree.{kids, starts}
use Rattle.directory.proofs.OpenElements.{seat_at, open_later, open_fewer, seat_low}

pub all_zero : (n k : ℕ) → ◌≡◌ {A = ℕ} (get_or (replicate n 0) k 0) 0
all_zero zero k = refl
all_zero (suc n) zero = refl
all_zero (suc n) (suc k) = all_zero n k

module _ (s : Sheet) where
  abbrev pub Agree : ℕ → List ℕ → List ℕ → Type 0
  Agree e ps parents = (j : ℕ) → j < e → get_or ps j 0 ≡ get_or parents j 0

  -- what holds before the element e: the leaves of the rows and those to come are all, whatever the parents from e on
  pub record Built (e k : ℕ) (rows : List ElementRow) (parents : List ℕ) (os : List (Open ElementRow)) : Type 0 where
    pub early : e ≤ 1024
    pub few : length rows < e
    pub low : k < e
    pub shallow : length os ≤ 31
    pub parents_long : length parents ≡ 1024
    pub deep : Shallow os (trees_from s e)
    pub sound : AllOpen e os
    pub inside : RowsInside s rows
    pub climbs : ParentsInside s parents
    pub gives : (ps : List ℕ) → Agree e ps parents → map (leaf_of_row s ps) rows ++ coming_leaves s ps os k (trees_from s e) ≡ flattened_leaves s

  -- before the element behind the top
  pub begins : (parents : List ℕ) → length parents ≡ 1024 → ((k : ℕ) → get_or parents k 0 ≡ 0) → Built 1 0 [] parents []
  begins parents b zeros = record {
    early = omega arith;
    few = omega arith;
    low = omega arith;
    shallow = omega arith;
    parents_long = b;
    deep = (starts s).low;
    sound = tt;
    inside = λ k h. absurd (omega arith);
    climbs = λ k h. omega (arith, zeros k);
    gives = λ ps agree. (starts s).gives;
  }

  agree_less : (e p : ℕ) (ps parents : List ℕ) → Agree (e + 1) ps (set parents e p) → Agree e ps parents
  agree_less e p ps parents agree j h = let ne : j ≢ e = omega arith in agree j (omega arith) ∙ get_or-set_other parents e j p 0 ne

  agree_here : (e p : ℕ) (ps parents : List ℕ) → e < length parents → Agree (e + 1) ps (set parents e p) → get_or ps e 0 ≡ p
  agree_here e p ps parents h agree = agree e (omega arith) ∙ get_or-set_same parents e p 0 h

  climbs_set : (e p : ℕ) (parents : List ℕ) → e < length parents → p < length (elements_in s) → ParentsInside s parents → ParentsInside s (set parents e p)
  climbs_set e p parents h low all k below =
      ⊎_elim
      (λ same. subst (λ j. get_or (set parents e p) j 0 < length (elements_in s)) (sym same) (subst (λ q. q < length (elements_in s)) (sym (get_or-set_same parents e p 0 h)) low))
      (λ apart. subst (λ q. q < length (elements_in s)) (sym (get_or-set_other parents e k p 0 apart)) (all k below))
      (cases_eq k e)

  inside_push : (r : ElementRow) (rows : List ElementRow) → r.element < length (elements_in s) → RowsInside s rows → RowsInside s (rows ++ r ∷ [])
  inside_push r rows low all k below =
      ⊎_elim
      (λ same. subst (λ q. q.element < length (elements_in s)) (sym (get_or_at rows r [] no_row k (sym same))) low)
      (λ apart. let h : k < length rows = omega (arith, length_push rows r) in subst (λ q. q.element < length (elements_in s)) (sym (get_or_append_left rows (r ∷ []) no_row k h)) (all k h))
      (cases_eq k (length rows))

  module _ (e k : ℕ) (rows : List ElementRow) (parents : List ℕ) (os : List (Open ElementRow)) (b : Built e k rows parents os) (h : e < length (elements_in s)) (seat : Seat) (sits : seat ≡ seat_at os k) where
    pub seat_is_low : (seat.parent < e) × (seat.above < e) × (seat.roots < e + 1)
    seat_is_low = subst (λ q. (q.parent < e) × (q.above < e) × (q.roots < e + 1)) (sym sits) (seat_low e k os b.sound (omega (arith, b.few)) b.low)

    lower : Lower k os (tree_from s e) (trees_after s e)
    lower = lower_next e k os (tree_from s e) (trees_after s e) b.sound (subst (Shallow os) (trees_split s e h) b.deep)

    above_is : seat.above ≡ (seat_at os k).above
    above_is = ap (λ q. q.above) sits

    up : (ps : List ℕ) → Agree (e + 1) ps (set parents e seat.parent) → get_or ps e 0 ≡ (seat_at os k).parent
    up ps agree = agree_here e seat.parent ps parents (omega (arith, b.parents_long, few_elements s)) agree ∙ ap (λ q. q.parent) sits

    -- there is room for one more open element
    pub room : length (fewer os) ≤ 31
    room = omega (arith, lower.many, lower.tree)

    still : AllOpen (e + 1) (fewer os)
    still = open_later e (fewer os) (open_fewer e os b.sound)

    abbrev row : ElementRow
    row = record { element = e; root = seat.root; parts = seat.above + 1 }

    row_is : row ≡ record { element = e; root = (seat_at os k).root; parts = (seat_at os k).above + 1 }
    row_is = λ j. record { element = e; root = (sits j).root; parts = (sits j).above + 1 }

    -- an element with children is opened
    pub turn_opened : (c : ℕ) → c ≡ (record_at s e).children → 0 < c → Built (e + 1) seat.roots rows (set parents e seat.parent) (record { left = c; told = row } ∷ fewer os)
    turn_opened c is some =
        let o : Open ElementRow = record { left = c; told = row } in
        record {
          early = omega (arith, few_elements s);
          few = omega (arith, b.few);
          low = seat_is_low.2;
          shallow = omega (arith, lower.many, lower.tree);
          parents_long = length-set parents e seat.parent ∙ b.parents_long;
          deep = (
            subst (λ m. o.told.parts + depths (first_trees m (trees_from s (e + 1))) ≤ 31) (sym is) (omega (arith, lower.tree, above_is)),
            omega (arith, lower.many, above_is),
            subst (λ m. Shallow (fewer os) (later_trees m (trees_from s (e + 1)))) (sym is) lower.rest,
          );
          sound = (some, omega arith, omega (arith, seat_is_low.1), still);
          inside = b.inside;
          climbs = climbs_set e seat.parent parents (omega (arith, b.parents_long, few_elements s)) (omega (arith, seat_is_low.0)) b.climbs;
          gives = λ ps agree.
              ap (λ w. map (leaf_of_row s ps) rows ++ w)
              ((λ j. coming_leaves s ps (record { left = is j; told = row_is j } ∷ fewer os) (sits j).roots (trees_from s (e + 1)))
              ∙ sym (opened s ps e k os h b.sound (up ps agree) (starts s).enough (subst (λ m. 0 < m) is some)))
              ∙ b.gives ps (agree_less e seat.parent ps parents agree);
        }

    -- a childless one is a leaf
    pub turn_passed : (c : ℕ) → c ≡ (record_at s e).children → c ≡ 0 → Built (e + 1) seat.roots (rows ++ row ∷ []) (set parents e seat.parent) (fewer os)
    turn_passed c is childless =
        let none_below : (record_at s e).children ≡ 0 = sym is ∙ childless in
        record {
          early = omega (arith, few_elements s);
          few = omega (arith, b.few, length_push rows row);
          low = seat_is_low.2;
          shallow = room;
          parents_long = length-set parents e seat.parent ∙ b.parents_long;
          deep = subst (λ m. Shallow (fewer os) (later_trees m (trees_from s (e + 1)))) none_below lower.rest;
          sound = still;
          inside = inside_push row rows h b.inside;
          climbs = climbs_set e seat.parent parents (omega (arith, b.parents_long, few_elements s)) (omega (arith, seat_is_low.0)) b.climbs;
          gives = λ ps agree.
              let leaf = leaf_of_row s ps in
              let rest = coming_leaves s ps (fewer os) (seat_at os k).roots (trees_from s (e + 1)) in
              (λ j. map_push leaf rows row j ++ coming_leaves s ps (fewer os) (sits j).roots (trees_from s (e + 1)))
              ∙ append_assoc (map leaf rows) (leaf row ∷ []) rest
              ∙ ap (λ w. map leaf rows ++ w) ((λ j. leaf (row_is j) ∷ rest) ∙ sym (passed s ps e k os h b.sound (up ps agree) none_below))
              ∙ b.gives ps (agree_less e seat.parent ps parents agree);
        }

  module _ (e k : ℕ) (rows : List ElementRow) (parents : List ℕ) (os : List (Open ElementRow)) (b : Built e k rows parents os) (over : length (elements_in s) ≤ e) where
    -- no leaf is to come
    all_rows : map (leaf_of_row s parents) rows ≡ flattened_leaves s
    all_rows =
        sym (append-nil _)
        ∙ ap (λ w. map (leaf_of_row s parents) rows ++ w) (sym (at_drop_all (λ w. coming_leaves s parents os k (forest kids w)) (elements_in s) e over ∙ coming_none s parents os k))
        ∙ b.gives parents (λ j low. refl)

    -- the two columns of the rows
    pub rooted : map (λ r. r.root) rows ≡ roots (flattened_leaves s)
    rooted = sym (fused rows) ∙ ap roots all_rows
      where
        fused : (rs : List ElementRow) → roots (map (leaf_of_row s parents) rs) ≡ map (λ r. r.root) rs
        fused [] = refl
        fused (r ∷ rs) = ap (λ w. r.root ∷ w) (fused rs)

    pub led : map (λ r. path_to s parents r.parts r.element) rows ≡ map (λ l. l.parts) (flattened_leaves s)
    led = sym (fused rows) ∙ ap (map (λ l. l.parts)) all_rows
      where
        fused : (rs : List ElementRow) → map (λ l. l.parts) (map (leaf_of_row s parents) rs) ≡ map (λ r. path_to s parents r.parts r.element) rs
        fused [] = refl
        fused (r ∷ rs) = ap (λ w. path_to s parents r.parts r.element ∷ w) (fused rs)
