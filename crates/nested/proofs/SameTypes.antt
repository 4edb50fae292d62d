-- Two types are the same if their records are, one by one. Assumes nothing.
use Rattle.std.proofs.Common.{◌≡◌, ℕ, suc, ◌≤◌, Bool, true, false, cond, ◌&&◌, ◌||◌, eqb, ltb, ◌⊎◌, List, [], ◌∷◌, ◌++◌, drop, sym, refl, ap, ◌∙◌, inl, inr, append_assoc, append-nil, arith}
use mathlib.Core.Bool.{beq}
use Rattle.std.proofs.lemmas.Bool.{eq-eqb, ne_eqb, eqb-true, and_parts, cases_eq}
use Rattle.std.specs.Str.{bytes_eq}
use Rattle.rules.specs.Trees.{Tree, node, Forest, none, more, label, below, count, preorder, preorders}
use Rattle.rules.specs.Types.{Wrapper, list, large_list, list_view, large_list_view, fixed_size_list, map, same_type, same_fields, same_wrapper, wrapper_kind, wrapper_detail}
use Rattle.format.specs.declared.records.TypeRecord.{TypeRecord}
use Rattle.format.specs.Records.{name_bytes}
use Rattle.sheet.specs.SheetTrees.{type_of, fields_of, is_nullable}
use Rattle.nested.specs.Alike.{used_detail, same_top, same_field}
use Rattle.nested.proofs.Counting.{wrapper_high}
use Rattle.nested.proofs.FairTypes.{Fair, fair_leaf, fair_struct, fair_wrap, Fairs, none_fair, more_fair}

and_true : (b : Bool) → b ≡ (b && true)
and_true true = refl
and_true false = refl

and_false : (b : Bool) → (b && false) ≡ false
and_false true = refl
and_false false = refl

and_assoc : (x y z : Bool) → (x && (y && z)) ≡ ((x && y) && z)
and_assoc true y z = refl
and_assoc false y z = refl

swap : (x y z : Bool) → (x && (y && z)) ≡ ((z && y) && x)
swap true true z = and_true z ∙ and_true (z && true)
swap true false z = sym (ap (λ b. b && true) (and_false z))
swap false y z = sym (and_false (z && y))

-- the tops
module _ (a b : TypeRecord) where
  kinds_differ : (a.kind ≡ b.kind → ⊥) → same_top a b ≡ false
  kinds_differ h = ap (λ x. x && (eqb a.children b.children && eqb (used_detail a) (used_detail b))) (ne_eqb a.kind b.kind h)

  counts_differ : (a.children ≡ b.children → ⊥) → same_top a b ≡ false
  counts_differ h = ap (λ x. eqb a.kind b.kind && (x && eqb (used_detail a) (used_detail b))) (ne_eqb a.children b.children h) ∙ and_false (eqb a.kind b.kind)

  details_left : a.kind ≡ b.kind → a.children ≡ b.children → same_top a b ≡ eqb (used_detail a) (used_detail b)
  details_left k c = λ i. eq-eqb a.kind b.kind k i && (eq-eqb a.children b.children c i && eqb (used_detail a) (used_detail b))

pub no_kind : (a b : TypeRecord) → (a.kind ≡ b.kind → ⊥) → (names : List ℕ) → same_field names a b ≡ false
no_kind a b h names = ap (λ x. x && (eqb a.nullable b.nullable && bytes_eq (name_bytes names a.name) (name_bytes names b.name))) (kinds_differ a b h)

leaf_detail : (r : TypeRecord) → r.kind ≡ 1 → used_detail r ≡ r.detail
leaf_detail r k = ap (λ x. cond (eqb x 1 || (eqb x 7 || eqb x 8)) r.detail 0) k

struct_detail : (r : TypeRecord) → r.kind ≡ 2 → used_detail r ≡ 0
struct_detail r k = ap (λ x. cond (eqb x 1 || (eqb x 7 || eqb x 8)) r.detail 0) k

wrap_detail : (r : TypeRecord) (w : Wrapper) → r.kind ≡ wrapper_kind w → wrapper_detail w ≡ cond (ltb r.kind 7) 0 r.detail → used_detail r ≡ wrapper_detail w
wrap_detail r list k d = ap (λ x. cond (eqb x 1 || (eqb x 7 || eqb x 8)) r.detail 0) k
wrap_detail r large_list k d = ap (λ x. cond (eqb x 1 || (eqb x 7 || eqb x 8)) r.detail 0) k
wrap_detail r list_view k d = ap (λ x. cond (eqb x 1 || (eqb x 7 || eqb x 8)) r.detail 0) k
wrap_detail r large_list_view k d = ap (λ x. cond (eqb x 1 || (eqb x 7 || eqb x 8)) r.detail 0) k
wrap_detail r (fixed_size_list n) k d = ap (λ x. cond (eqb x 1 || (eqb x 7 || eqb x 8)) r.detail 0) k ∙ sym (d ∙ ap (λ x. cond (ltb x 7) 0 r.detail) k)
wrap_detail r (map n) k d = ap (λ x. cond (eqb x 1 || (eqb x 7 || eqb x 8)) r.detail 0) k ∙ sym (d ∙ ap (λ x. cond (ltb x 7) 0 r.detail) k)

-- nullability is 0 or 1
bit : (n : ℕ) → n ≤ 1 → (n ≡ 0) ⊎ (n ≡ 1)
bit n h = elim (cases_eq n 0) [ inl e ↦ inl e | inr d ↦ inr (omega arith) ]

bits_same : (n m : ℕ) → n ≤ 1 → m ≤ 1 → eqb n m ≡ beq (eqb n 1) (eqb m 1)
bits_same n m h l = elim (bit n h) [
  | inl e ↦ elim (bit m l) [
    | inl f ↦ (λ i. eqb (e i) (f i)) ∙ sym (λ i. beq (eqb (e i) 1) (eqb (f i) 1))
    | inr f ↦ (λ i. eqb (e i) (f i)) ∙ sym (λ i. beq (eqb (e i) 1) (eqb (f i) 1))
  ]
  | inr e ↦ elim (bit m l) [
    | inl f ↦ (λ i. eqb (e i) (f i)) ∙ sym (λ i. beq (eqb (e i) 1) (eqb (f i) 1))
    | inr f ↦ (λ i. eqb (e i) (f i)) ∙ sym (λ i. beq (eqb (e i) 1) (eqb (f i) 1))
  ]
]

module _ (names : List ℕ) where
  -- names and nullability of two fields
  abbrev signed : TypeRecord → TypeRecord → Bool
  signed a b = bytes_eq (name_bytes names a.name) (name_bytes names b.name) && beq (is_nullable names a) (is_nullable names b)

  field_is : (a b : TypeRecord) → a.nullable ≤ 1 → b.nullable ≤ 1 → same_field names a b ≡ (signed a b && same_top a b)
  field_is a b h l =
      swap (same_top a b) (eqb a.nullable b.nullable) (bytes_eq (name_bytes names a.name) (name_bytes names b.name))
      ∙ ap (λ x. (bytes_eq (name_bytes names a.name) (name_bytes names b.name) && x) && same_top a b) (bits_same a.nullable b.nullable h l)

  -- forests of other numbers of trees are other fields
  apart : (f g : Forest TypeRecord) → (count f ≡ count g → ⊥) → same_fields (fields_of names f) (fields_of names g) ≡ false
  apart none none h = absurd (h refl)
  apart none (more u g) h = refl
  apart (more t f) none h = refl
  apart (more t f) (more u g) h =
      ap (λ x. (signed (label t) (label u) && same_type (type_of names t) (type_of names u)) && x) (apart f g (λ e. h (ap suc e))) ∙ and_false (signed (label t) (label u) && same_type (type_of names t) (type_of names u))

  -- two types are the same if their tops are, and then their fields
  abbrev TopFirst : Tree TypeRecord → Tree TypeRecord → Type 0
  TopFirst t u = same_type (type_of names t) (type_of names u) ≡ (same_top (label t) (label u) && same_fields (fields_of names (below t)) (fields_of names (below u)))

  other_kinds : (r q : TypeRecord) (f g : Forest TypeRecord) → (r.kind ≡ q.kind → ⊥) → same_type (type_of names (node r f)) (type_of names (node q g)) ≡ false → TopFirst (node r f) (node q g)
  other_kinds r q f g h e = e ∙ sym (ap (λ x. x && same_fields (fields_of names f) (fields_of names g)) (kinds_differ r q h))

  regroup : (x n s : Bool) → ((x && n) && s) ≡ (x && ((n && s) && true))
  regroup true n s = and_true (n && s)
  regroup false n s = refl

  top_first : {t u : Tree TypeRecord} → Fair names t → Fair names u → TopFirst t u
  top_first (fair_leaf r z c k e) (fair_leaf q z2 c2 k2 e2) =
      (λ i. same_type (e i) (e2 i))
      ∙ (λ i. eqb (sym (leaf_detail r k) i) (sym (leaf_detail q k2) i))
      ∙ sym (details_left r q (k ∙ sym k2) (c ∙ sym c2))
      ∙ and_true (same_top r q)
  top_first (fair_leaf r z c k e) (fair_struct q g z2 c2 k2 e2 gs) = other_kinds r q none g (λ x. omega (arith, k, k2)) (λ i. same_type (e i) (e2 i))
  top_first (fair_leaf r z c k e) (fair_wrap q u v z2 c2 k2 d2 e2 b) = other_kinds r q none (more u none) (λ x. omega (arith, k, k2, wrapper_high v)) (λ i. same_type (e i) (e2 i))
  top_first (fair_struct r f z c k e fs) (fair_leaf q z2 c2 k2 e2) = other_kinds r q f none (λ x. omega (arith, k, k2)) (λ i. same_type (e i) (e2 i))
  top_first (fair_struct r f z c k e fs) (fair_struct q g z2 c2 k2 e2 gs) =
      (λ i. same_type (e i) (e2 i)) ∙ elim (cases_eq r.children q.children) [
        | inl x ↦ ap (λ y. y && same_fields (fields_of names f) (fields_of names g)) (sym (details_left r q (k ∙ sym k2) x ∙ (λ i. eqb (struct_detail r k i) (struct_detail q k2 i))))
        | inr x ↦ apart f g (λ y. x (c ∙ y ∙ sym c2)) ∙ ap (λ y. y && same_fields (fields_of names f) (fields_of names g)) (sym (counts_differ r q x))
      ]
  top_first (fair_struct r f z c k e fs) (fair_wrap q u v z2 c2 k2 d2 e2 b) = other_kinds r q f (more u none) (λ x. omega (arith, k, k2, wrapper_high v)) (λ i. same_type (e i) (e2 i))
  top_first (fair_wrap r t w z c k d e a) (fair_leaf q z2 c2 k2 e2) = other_kinds r q (more t none) none (λ x. omega (arith, k, k2, wrapper_high w)) (λ i. same_type (e i) (e2 i))
  top_first (fair_wrap r t w z c k d e a) (fair_struct q g z2 c2 k2 e2 gs) = other_kinds r q (more t none) g (λ x. omega (arith, k, k2, wrapper_high w)) (λ i. same_type (e i) (e2 i))
  top_first (fair_wrap r t w z c k d e a) (fair_wrap q u v z2 c2 k2 d2 e2 b) =
      let tops : same_top r q ≡ same_wrapper w v = λ i. eqb (k i) (k2 i) && (eq-eqb r.children q.children (c ∙ sym c2) i && eqb (wrap_detail r w k d i) (wrap_detail q v k2 d2 i)) in
      (λ i. same_type (e i) (e2 i))
      ∙ regroup (same_wrapper w v) (signed (label t) (label u)) (same_type (type_of names t) (type_of names u))
      ∙ ap (λ x. x && ((signed (label t) (label u) && same_type (type_of names t) (type_of names u)) && true)) (sym tops)

  -- the records of one list beside those of another, as far as the first goes
  abbrev pub alike : List TypeRecord → List TypeRecord → Bool
  alike [] ys = true
  alike (x ∷ xs) [] = false
  alike (x ∷ xs) (y ∷ ys) = same_field names x y && alike xs ys

  low_bit : {t : Tree TypeRecord} → Fair names t → (label t).nullable ≤ 1
  low_bit (fair_leaf r z c k e) = z
  low_bit (fair_struct r f z c k e fs) = z
  low_bit (fair_wrap r t w z c k d e a) = z

  all_counted : {t : Tree TypeRecord} → Fair names t → (label t).children ≡ count (below t)
  all_counted (fair_leaf r z c k e) = c
  all_counted (fair_struct r f z c k e fs) = c
  all_counted (fair_wrap r t w z c k d e a) = c

  below_fair : {t : Tree TypeRecord} → Fair names t → Fairs names (below t)
  below_fair (fair_leaf r z c k e) = none_fair
  below_fair (fair_struct r f z c k e fs) = fs
  below_fair (fair_wrap r t w z c k d e a) = more_fair t none a none_fair

  first_fair : {t : Tree TypeRecord} {f : Forest TypeRecord} → Fairs names (more t f) → Fair names t
  first_fair (more_fair t f a b) = a

  later_fair : {t : Tree TypeRecord} {f : Forest TypeRecord} → Fairs names (more t f) → Fairs names f
  later_fair (more_fair t f a b) = b

  -- same tops have as many children
  even : (a b : TypeRecord) → same_top a b ≡ true → a.children ≡ b.children
  even a b h = eqb-true a.children b.children (and_parts _ _ (and_parts (eqb a.kind b.kind) _ h).1).0

  by_top : (n top y r x : Bool) → (top ≡ true → x ≡ (y && r)) → ((n && top) && x) ≡ ((n && (top && y)) && r)
  by_top true true y r x e = e refl
  by_top true false y r x e = refl
  by_top false true y r x e = refl
  by_top false false y r x e = refl

  mutual
    alike_trees : (t u : Tree TypeRecord) → Fair names t → Fair names u → (xs ys : List TypeRecord) → alike (preorder t ++ xs) (preorder u ++ ys) ≡ ((signed (label t) (label u) && same_type (type_of names t) (type_of names u)) && alike xs ys)
    alike_trees (node r f) (node q g) a b xs ys =
        ap (λ x. x && alike (preorders f ++ xs) (preorders g ++ ys)) (field_is r q (low_bit a) (low_bit b))
        ∙ by_top (signed r q) (same_top r q) (same_fields (fields_of names f) (fields_of names g)) (alike xs ys) (alike (preorders f ++ xs) (preorders g ++ ys))
        (λ e. alike_forests f g (below_fair a) (below_fair b) (sym (all_counted a) ∙ even r q e ∙ all_counted b) xs ys)
        ∙ ap (λ x. (signed r q && x) && alike xs ys) (sym (top_first a b))

    alike_forests : (f g : Forest TypeRecord) → Fairs names f → Fairs names g → count f ≡ count g → (xs ys : List TypeRecord) → alike (preorders f ++ xs) (preorders g ++ ys) ≡ (same_fields (fields_of names f) (fields_of names g) && alike xs ys)
    alike_forests none none a b e xs ys = refl
    alike_forests none (more u g) a b e xs ys = absurd (omega arith)
    alike_forests (more t f) none a b e xs ys = absurd (omega arith)
    alike_forests (more t f) (more u g) a b e xs ys =
        (λ i. alike (append_assoc (preorder t) (preorders f) xs i) (append_assoc (preorder u) (preorders g) ys i))
        ∙ alike_trees t u (first_fair a) (first_fair b) (preorders f ++ xs) (preorders g ++ ys)
        ∙ ap (λ x. (signed (label t) (label u) && same_type (type_of names t) (type_of names u)) && x) (alike_forests f g (later_fair a) (later_fair b) (omega arith) xs ys)
        ∙ and_assoc (signed (label t) (label u) && same_type (type_of names t) (type_of names u)) (same_fields (fields_of names f) (fields_of names g)) (alike xs ys)

  -- behind the same tops, records are left that decide
  pub tops_differ : (t u : Tree TypeRecord) → Fair names t → Fair names u → same_top (label t) (label u) ≡ false → false ≡ same_type (type_of names t) (type_of names u)
  tops_differ t u a b e = sym (top_first a b ∙ ap (λ x. x && same_fields (fields_of names (below t)) (fields_of names (below u))) e)

  pub tops_same : (t u : Tree TypeRecord) → Fair names t → Fair names u → (rest : List TypeRecord) → same_top (label t) (label u) ≡ true → same_type (type_of names t) (type_of names u) ≡ alike (drop 1 (preorder t)) (drop 1 (preorder u ++ rest))
  tops_same (node r f) (node q g) a b rest e =
      top_first a b
      ∙ ap (λ x. x && same_fields (fields_of names f) (fields_of names g)) e
      ∙ and_true (same_fields (fields_of names f) (fields_of names g))
      ∙ sym (alike_forests f g (below_fair a) (below_fair b) (sym (all_counted a) ∙ even r q e ∙ all_counted b) [] rest)
      ∙ ap (λ x. alike x (preorders g ++ rest)) (append-nil (preorders f))
