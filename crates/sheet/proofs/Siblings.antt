-- From child to child of a type. Assumes nothing.
use Rattle.std.proofs.Common.{◌≡◌, ℕ, suc, ◌+◌, ◌<◌, ◌≤◌, length, sym, ap, ◌∙◌, subst, arith}
use Rattle.rules.specs.Trees.{none, more}
use Rattle.rules.specs.Types.{empty, field}
use Rattle.rules.proofs.Rows.{fills_next}
use Rattle.rules.proofs.Walks.{fills_forward}
use Rattle.sheet.specs.declared.children.Children.{Children}
use Rattle.sheet.specs.declared.type_ref.TypeRef.{TypeRef}
use Rattle.sheet.specs.declared.sheet.Sheet.{Sheet}
use Rattle.sheet.specs.Children.{IsNext}
use Rattle.sheet.specs.Seen.{types_in}
use Rattle.sheet.specs.SheetTrees.{type_tree}
use Rattle.sheet.specs.SheetExpressions.{type_at_place}
use Rattle.sheet.specs.Spans.{span_at, Reach}
use Rattle.sheet.proofs.Readers.{type_row, fields_at, name_at, nullable_at, type_row_more, fields_more, type_span_within}

module _ (s : Sheet) (p : ℕ) where
  -- the first of several children of the type at p, and those behind it
  pub record First (left next : ℕ) : Type 0 where
    pub there : next < length (types_in s)
    pub inside : next + span_at s next ≤ p + span_at s p
    pub on : Reach s p left (next + span_at s next)

  pub first : p < length (types_in s) → (left next : ℕ) → Reach s p (suc left) next → First left next
  first h left next reach =
      let f = fills_next (span_at s) left next (p + span_at s p) reach in
      record {
        there = omega (arith, f.0, type_span_within s p h);
        inside = fills_forward (span_at s) left (next + span_at s next) (p + span_at s p) f.1;
        on = f.1;
      }

-- the children that are left are those of the type at a place
pub record Under (s : Sheet) (p : ℕ) (it : Children) : Type 0 where
  pub sheet : it.above.sheet.now ≡ s
  pub place : it.above.place ≡ p

-- the first of them, and those that are left behind it
pub record Sibling (s : Sheet) (p : ℕ) (it : Children) (child : TypeRef) (then : Children) : Type 0 where
  pub under : Under s p then
  pub sheet : child.sheet.now ≡ s
  pub place : child.place ≡ it.next
  pub there : child.place < length (types_in s)
  pub behind : p < child.place
  pub inside : child.place + span_at s child.place ≤ p + span_at s p
  pub next : then.next ≡ child.place + span_at s child.place
  pub row : type_row s it.left it.next ≡ more (type_tree s child.place) (type_row s then.left then.next)
  pub fields : fields_at s it.left it.next ≡ field (name_at s child.place) (nullable_at s child.place) (type_at_place s child.place) (fields_at s then.left then.next)

pub under : {here : TypeRef} {it : Children} → it.above ≡ here → Under here.sheet.now here.place it
under e = record { sheet = ap (λ (t : TypeRef). t.sheet.now) e; place = ap (λ (t : TypeRef). t.place) e }

module _ (it : Children) (child : TypeRef) (then : Children) (x : IsNext it child then) where
  abbrev s : Sheet
  s = it.above.sheet.now

  abbrev p : ℕ
  p = it.above.place

  one : it.left ≡ suc then.left
  one = x.left ∙ omega arith

  foremost : First s p then.left it.next
  foremost = first s p it.above.there then.left it.next (subst (λ n. Reach s p n it.next) one it.reach)

  sibling_above : Sibling s p it child then
  sibling_above = record {
    under = under x.above;
    sheet = x.sheet;
    place = x.place;
    there = omega (arith, x.place, foremost.there);
    behind = omega (arith, x.place, it.behind);
    inside = subst (λ n. n + span_at s n ≤ p + span_at s p) (sym x.place) foremost.inside;
    next = x.next ∙ (λ i. sym x.place i + span_at s (sym x.place i));
    row = ap (λ n. type_row s n it.next) one ∙ type_row_more s then.left it.next foremost.there ∙ (λ i. more (type_tree s (sym x.place i)) (type_row s then.left (sym x.next i)));
    fields = ap (λ n. fields_at s n it.next) one ∙ fields_more s then.left it.next foremost.there
        ∙ (λ i. field (name_at s (sym x.place i)) (nullable_at s (sym x.place i)) (type_at_place s (sym x.place i)) (fields_at s then.left (sym x.next i)));
  }

-- so where an iterator gives it
pub sibling : {s : Sheet} {p : ℕ} {it then : Children} {child : TypeRef} → Under s p it → IsNext it child then → Sibling s p it child then
sibling {s} {p} {it} {then} {child} u x = subst (λ (y : Sheet × ℕ). Sibling y.0 y.1 it child then) (λ i. (u.sheet i, u.place i)) (sibling_above it child then x)

-- none is left
pub no_row : (s : Sheet) (it : Children) → it.left ≡ 0 → type_row s it.left it.next ≡ none
no_row s it e = ap (λ n. type_row s n it.next) e

pub no_fields : (s : Sheet) (it : Children) → it.left ≡ 0 → fields_at s it.left it.next ≡ empty
no_fields s it e = ap (λ n. fields_at s n it.next) e
