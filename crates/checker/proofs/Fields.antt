-- What get_field comes to, by its first argument. Assumes nothing.
use Rattle.std.proofs.Common.{◌≡◌, ℕ, zero, suc, ◌+◌, ◌<◌, Bool, true, false, cond, not, ◌&&◌, ◌||◌, List, length, Some, None, sym, refl, ap, ◌∙◌, subst, arith}
use Rattle.std.proofs.lemmas.Bool.{ltb-true}
use Rattle.std.specs.Bool.{then_some}
use Rattle.std.specs.Option.{option_map}
use denote.Ref.{Bor}
use Rattle.rules.specs.Names.{Name}
use Rattle.rules.specs.Types.{Ty, File, first_named, is_nested}
use Rattle.rules.specs.Expressions.{Expr, column, get_field, Exprs, arg, is_column, name_of_column, path_of}
use Rattle.rules.specs.Findings.{Finding, is_supported, is_map_root, path_step, get_field_step, findings, findings_in}
use Rattle.format.specs.declared.kinds.NodeKind.TheVariants.{GetField}
use Rattle.sheet.specs.declared.sheet.Sheet.{Sheet}
use Rattle.sheet.specs.Seen.{types_in, nodes_in}
use Rattle.sheet.specs.SheetTrees.{file_in}
use Rattle.sheet.specs.SheetExpressions.{expr_at, type_at_place}
use Rattle.sheet.proofs.Sheets.{type_count_lem}
use Rattle.sheet.proofs.NodeReaders.{node_record_at, node_span, exprs_at, node_is, node_fields_fit_lem, node_children_fill, node_span_within}
use Rattle.rules.proofs.Rows.{fills_next}
use Rattle.rules.specs.Preorder.{fills}
use Rattle.checker.specs.declared.state.PushdownChecker.{PushdownChecker}
use Rattle.checker.specs.Settings.{sheet_of, follows}
use Rattle.checker.specs.Visits.{kind_at, Accessed, arguments_of, first_is_column, behind_first}
use Rattle.checker.proofs.Places.{Left, left, step}

named_column : (e : Expr) (name : Name) → name_of_column e ≡ Some name → is_column e ≡ true
named_column (column n i) name h = refl
named_column _ name h = cc

module _ (file : File) (lists casts : Bool) (t : Ty) where
  abbrev Below : Expr → Type 0
  Below x = findings file lists casts x ≡ findings_in file lists casts (arguments_of x)

  abbrev follow : Name → Bool
  follow name = not (is_map_root file lists casts (first_named name 0 file)) && (not (is_nested t) || is_supported file lists casts t)

  module _ (x : Expr) (es : Exprs) (e : x ≡ get_field t es) (f : Expr) (fs : Exprs) (are : es ≡ arg f fs) where
    abbrev inside : List Finding
    inside = findings_in file lists casts (arg f fs)

    is : x ≡ get_field t (arg f fs)
    is = e ∙ ap (get_field t) are

    pub field_of_other : name_of_column f ≡ None → Below x
    field_of_other h = subst Below (sym is) (ap (λ o. get_field_step file lists casts t o fs inside) h)

    module _ (name : Name) (named : name_of_column f ≡ Some name) where
      pub field_read : follow name ≡ false → Below x
      field_read h = subst Below (sym is) (ap (λ o. get_field_step file lists casts t o fs inside) named ∙ ap (λ b. cond b (path_step file lists casts name (path_of fs)) inside) h)

      pub field_followed : follow name ≡ true → (first_is_column (arguments_of x) ≡ true) × (findings file lists casts x ≡ path_step file lists casts name (path_of (behind_first (arguments_of x))))
      field_followed h = (
        subst (λ y. first_is_column (arguments_of y) ≡ true) (sym is) (named_column f name named),
        subst (λ y. findings file lists casts y ≡ path_step file lists casts name (path_of (behind_first (arguments_of y)))) (sym is)
            (ap (λ o. get_field_step file lists casts t o fs inside) named ∙ ap (λ b. cond b (path_step file lists casts name (path_of fs)) inside) h),
      )

-- records that are there take places
fills_wide : (span : ℕ → ℕ) (n p e : ℕ) → fills span n p e ≡ true → (n ≡ 0 → ⊥) → p < e
fills_wide span zero p e f some = absurd (some refl)
fills_wide span (suc n) p e f some = (fills_next span n p e f).0

-- get_field at a place
module _ (k : PushdownChecker) (p : ℕ) (h : p < length (nodes_in (sheet_of k))) (kind : kind_at (sheet_of k) p ≡ Some GetField) where
  abbrev s : Sheet
  s = sheet_of k

  abbrev lists : Bool
  lists = k.allow_list_columns

  abbrev casts : Bool
  casts = k.collect_cast_accesses

  abbrev es : Exprs
  es = exprs_at s (node_record_at s p).children (p + 1)

  abbrev t : Ty
  t = type_at_place s (node_record_at s p).type_place

  abbrev Same : Type 0
  Same = Below (file_in s) lists casts t (expr_at s p)

  it : expr_at s p ≡ get_field t es
  it = node_is s p h (Some GetField) kind

  pub field_type : (node_record_at s p).type_place < length (types_in s)
  field_type = let low = ltb-true _ _ (node_fields_fit_lem s p h (Some GetField) kind) in omega (arith, low, type_count_lem s)

  module _ (some : (node_record_at s p).children ≡ 0 → ⊥) where
    abbrev all : Left s (p + 1) (p + node_span s p)
    all = record { count = (node_record_at s p).children; filled = node_children_fill s p h; within = node_span_within s p h }

    wide : p + 1 < p + node_span s p
    wide = fills_wide (node_span s) (node_record_at s p).children (p + 1) (p + node_span s p) (node_children_fill s p h) some

    pub first_there : p + 1 < length (nodes_in s)
    first_there = omega (arith, wide, node_span_within s p h)

    abbrev fs : Exprs
    fs = left s (p + 1 + node_span s (p + 1)) (p + node_span s p) (step s (p + 1) (p + node_span s p) wide all).over

    are : es ≡ arg (expr_at s (p + 1)) fs
    are = (step s (p + 1) (p + node_span s p) wide all).here

    pub field_other : name_of_column (expr_at s (p + 1)) ≡ None → Same
    field_other = field_of_other (file_in s) lists casts t (expr_at s p) es it (expr_at s (p + 1)) fs are

    module _ (name : Name) (named : name_of_column (expr_at s (p + 1)) ≡ Some name) where
      pub field_whole : follow (file_in s) lists casts t name ≡ false → Same
      field_whole = field_read (file_in s) lists casts t (expr_at s p) es it (expr_at s (p + 1)) fs are name named

      pub field_path : follow (file_in s) lists casts t name ≡ true → (first_is_column (arguments_of (expr_at s p)) ≡ true) × (findings (file_in s) lists casts (expr_at s p) ≡ path_step (file_in s) lists casts name (path_of (behind_first (arguments_of (expr_at s p)))))
      field_path = field_followed (file_in s) lists casts t (expr_at s p) es it (expr_at s (p + 1)) fs are name named

    -- the name that is told, by whether its path is followed
    pub field_told : (name : Bor Name) → name_of_column (expr_at s (p + 1)) ≡ Some name.now → (b : Bool) → b ≡ follows k name.now t → Accessed k p (option_map (λ x. x.now) (then_some b name))
    field_told name named true e = field_path name.now named (sym e)
    field_told name named false e = field_whole name.now named (sym e)
