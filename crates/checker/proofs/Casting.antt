-- What a cast comes to, by its argument. Assumes nothing.
use Rattle.std.proofs.Common.{◌≡◌, ℕ, ◌+◌, ◌<◌, Bool, true, false, cond, ◌&&◌, List, [], ◌∷◌, length, Some, None, Option, sym, refl, ap, ◌∙◌, subst, append-nil, arith}
use Rattle.std.proofs.lemmas.Bool.{ltb-true, eqb-true}
use Rattle.std.specs.Bool.{then_some}
use Rattle.rules.specs.Names.{Name}
use Rattle.rules.specs.Types.{Ty, File, first_named, type_at}
use Rattle.rules.specs.Expressions.{Expr, cast, name_of_column}
use Rattle.rules.specs.Findings.{Finding, through, is_nested_cast, cast_on, cast_step, findings, findings_in}
use Rattle.format.specs.declared.kinds.NodeKind.TheVariants.{Cast}
use Rattle.sheet.specs.declared.sheet.Sheet.{Sheet}
use Rattle.sheet.specs.Seen.{types_in, nodes_in}
use Rattle.sheet.specs.SheetTrees.{file_in}
use Rattle.sheet.specs.SheetExpressions.{expr_at, type_at_place, of_one}
use Rattle.sheet.proofs.Sheets.{type_count_lem}
use Rattle.sheet.proofs.NodeReaders.{node_record_at, node_is, node_fields_fit_lem, node_children_fit_lem, single, Single}
use Rattle.checker.specs.declared.state.PushdownChecker.{PushdownChecker}
use Rattle.checker.specs.Settings.{sheet_of}
use Rattle.checker.specs.Visits.{kind_at, arguments_of, Recorded}
use Rattle.checker.proofs.Rooted.{named_low}

module _ (file : File) (lists casts : Bool) (g : Ty) where
  no_cast_on : casts ≡ false → (o : Option ℕ) (inside : List Finding) → cast_on file lists casts g o inside ≡ inside
  no_cast_on off None inside = refl
  no_cast_on off (Some j) inside = ap (λ b. cond (b && is_nested_cast (type_at file j) g) (through j g ∷ []) inside) off

  no_cast : casts ≡ false → (o : Option Name) (inside : List Finding) → cast_step file lists casts g o inside ≡ inside
  no_cast off None inside = refl
  no_cast off (Some name) inside = no_cast_on off (first_named name 0 file) inside

-- a cast at a place
module _ (k : PushdownChecker) (p : ℕ) (h : p < length (nodes_in (sheet_of k))) (kind : kind_at (sheet_of k) p ≡ Some Cast) where
  abbrev s : Sheet
  s = sheet_of k

  abbrev lists : Bool
  lists = k.allow_list_columns

  abbrev casts : Bool
  casts = k.collect_cast_accesses

  abbrev g : Ty
  g = type_at_place s (node_record_at s p).type_place

  abbrev e : Expr
  e = expr_at s (p + 1)

  abbrev Same : Type 0
  Same = findings (file_in s) lists casts (expr_at s p) ≡ findings_in (file_in s) lists casts (arguments_of (expr_at s p))

  one : Single s p h
  one = single s p h (eqb-true _ _ (node_children_fit_lem s p h (Some Cast) kind))

  it : expr_at s p ≡ cast g e
  it = node_is s p h (Some Cast) kind ∙ ap (of_one s (cast g)) one.child

  pub cast_type : (node_record_at s p).type_place < length (types_in s)
  cast_type = let low = ltb-true _ _ (node_fields_fit_lem s p h (Some Cast) kind) in omega (arith, low, type_count_lem s)

  pub cast_child : p + 1 < length (nodes_in s)
  cast_child = one.there

  -- where the step is what the argument needs
  through_none : cast_step (file_in s) lists casts g (name_of_column e) (findings (file_in s) lists casts e) ≡ findings (file_in s) lists casts e → Same
  through_none q = subst (λ x. findings (file_in s) lists casts x ≡ findings_in (file_in s) lists casts (arguments_of x)) (sym it) (q ∙ sym (append-nil (findings (file_in s) lists casts e)))

  pub cast_off : casts ≡ false → Same
  cast_off off = through_none (no_cast (file_in s) lists casts g off (name_of_column e) (findings (file_in s) lists casts e))

  pub cast_other : name_of_column e ≡ None → Same
  cast_other n = through_none (ap (λ o. cast_step (file_in s) lists casts g o (findings (file_in s) lists casts e)) n)

  module _ (name : Name) (named : name_of_column e ≡ Some name) where
    step_is : cast_step (file_in s) lists casts g (name_of_column e) (findings (file_in s) lists casts e) ≡ cast_on (file_in s) lists casts g (first_named name 0 (file_in s)) (findings (file_in s) lists casts e)
    step_is = ap (λ o. cast_step (file_in s) lists casts g o (findings (file_in s) lists casts e)) named

    pub cast_unknown : first_named name 0 (file_in s) ≡ None → Same
    cast_unknown n = through_none (step_is ∙ ap (λ o. cast_on (file_in s) lists casts g o (findings (file_in s) lists casts e)) n)

    module _ (j : ℕ) (root : first_named name 0 (file_in s) ≡ Some j) where
      on_is : (b : Bool) → (casts && is_nested_cast (type_at (file_in s) j) g) ≡ b → cast_step (file_in s) lists casts g (name_of_column e) (findings (file_in s) lists casts e) ≡ cond b (through j g ∷ []) (findings (file_in s) lists casts e)
      on_is b q =
          step_is ∙ ap (λ o. cast_on (file_in s) lists casts g o (findings (file_in s) lists casts e)) root
          ∙ ap (λ x. cond x (through j g ∷ []) (findings (file_in s) lists casts e)) q

      pub cast_plain : is_nested_cast (type_at (file_in s) j) g ≡ false → Same
      cast_plain q = through_none (on_is false (ap (λ b. casts && b) q ∙ none casts))
        where
          none : (b : Bool) → (b && false) ≡ false
          none true = refl
          none false = refl

      pub cast_nested : casts ≡ true → is_nested_cast (type_at (file_in s) j) g ≡ true → findings (file_in s) lists casts (expr_at s p) ≡ through j g ∷ []
      cast_nested on q = ap (findings (file_in s) lists casts) it ∙ on_is true (ap (λ b. b && is_nested_cast (type_at (file_in s) j) g) on ∙ q)

  -- the root that is told, by whether the cast is nested
  pub cast_told : casts ≡ true → (name : Name) → name_of_column e ≡ Some name → (j : ℕ) → first_named name 0 (file_in s) ≡ Some j → (b : Bool) → b ≡ is_nested_cast (type_at (file_in s) j) g → Recorded k p (then_some b j)
  cast_told on name named j root true e = (named_low s name j root, cast_nested name named j root on (sym e))
  cast_told on name named j root false e = cast_plain name named j root (sym e)
