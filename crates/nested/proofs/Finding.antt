-- The field that a name finds. Assumes nothing.
use Rattle.std.proofs.Common.{◌≡◌, ℕ, ◌+◌, ◌<◌, Bool, true, false, cond, length, Some, Option, Decides, sym, ap, ◌∙◌, arith}
use Rattle.std.proofs.lemmas.Slice.Eq.{bytes_eq-Decides}
use Rattle.std.proofs.lemmas.Bool.Decides.{same_from_decides}
use Rattle.std.specs.Option.{option_map}
use Rattle.std.specs.Str.{bytes_eq}
use Rattle.rules.specs.Names.{Name}
use Rattle.rules.specs.Types.{type_named}
use Rattle.sheet.specs.declared.sheet.Sheet.{Sheet}
use Rattle.sheet.specs.Seen.{names_in, types_in}
use Rattle.sheet.specs.Children.{IsNext}
use Rattle.sheet.specs.SheetTrees.{fields_of}
use Rattle.rules.specs.Trees.{below}
use Rattle.sheet.specs.declared.type_ref.TypeRef.{TypeRef}
use Rattle.sheet.specs.declared.children.Children.{Children}
use Rattle.sheet.proofs.Siblings.{Under, Sibling, sibling}
use Rattle.sheet.specs.SheetExpressions.{type_at_place}
use Rattle.sheet.proofs.Readers.{type_record_at, fields_at, name_at, type_unrolled}
use Rattle.nested.specs.Found.{fields_under}

-- what a comparison of two names tells
pub names_compare : (b : Bool) (found wanted one other : Name) → Decides b (found ≡ wanted) → found ≡ one → wanted ≡ other → b ≡ bytes_eq one other
names_compare b found wanted one other says f w =
    same_from_decides b (bytes_eq found wanted) says (bytes_eq-Decides found wanted) ∙ (λ i. bytes_eq (f i) (w i))

-- the fields of a Struct, as its children give them
pub under_is : (s : Sheet) (p : ℕ) → p < length (types_in s) → fields_under s p ≡ fields_at s (type_record_at s p).children (p + 1)
under_is s p h = ap (λ t. fields_of (names_in s) (below t)) (type_unrolled s p h)

module _ (here : TypeRef) (name : Name) where
  -- the children before those that are left do not bear the name
  pub record Missed (it : Children) : Type 0 where
    pub at : Under here.sheet.now here.place it
    pub same : type_named name (fields_under here.sheet.now here.place) ≡ type_named name (fields_at here.sheet.now it.left it.next)

  module _ {it : Children} (i : Missed it) where
    module _ {child : TypeRef} {then : Children} (next : IsNext it child then) (found : Name) (called : found ≡ name_at child.sheet.now child.place) where
      x : Sibling here.sheet.now here.place it child then
      x = sibling i.at next

      step : (b : Bool) → bytes_eq found name ≡ b
          → type_named name (fields_under here.sheet.now here.place) ≡ cond b (Some (type_at_place here.sheet.now child.place)) (type_named name (fields_at here.sheet.now then.left then.next))
      step b e =
          i.same ∙ ap (type_named name) x.fields
          ∙ ap (λ w. cond w (Some (type_at_place here.sheet.now child.place)) (type_named name (fields_at here.sheet.now then.left then.next))) (ap (λ n. bytes_eq n name) (sym (called ∙ ap (λ s. name_at s child.place) x.sheet)) ∙ e)

      pub hit : bytes_eq found name ≡ true → (p : ℕ) → p ≡ child.place → (Some (type_at_place here.sheet.now p) ≡ type_named name (fields_under here.sheet.now here.place)) × (p < length (types_in here.sheet.now))
      hit e p is = (ap (λ q. Some (type_at_place here.sheet.now q)) is ∙ sym (step true e), omega (arith, is, x.there))

      pub miss : bytes_eq found name ≡ false → Missed then
      miss e = record { at = x.under; same = step false e }

-- what was found, where the type and the name were handed on
pub found_there : {s z : Sheet} {g h : ℕ} {name wanted : Name} (o : Option ℕ) → z ≡ s → h ≡ g → name ≡ wanted → option_map (type_at_place z) o ≡ type_named name (fields_under z h)
    → option_map (type_at_place s) o ≡ type_named wanted (fields_under s g)
found_there o es eg en e = (λ i. option_map (type_at_place (sym es i)) o) ∙ e ∙ (λ i. type_named (en i) (fields_under (es i) (eg i)))
