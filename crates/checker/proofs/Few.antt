-- An expression is recorded for at most every second of its nodes. Assumes nothing.
use Rattle.std.proofs.Common.{◌≡◌, ℕ, suc, ◌+◌, ◌*◌, ◌<◌, ◌≤◌, Bool, true, false, cond, not, ◌&&◌, ◌||◌, List, [], ◌∷◌, ◌++◌, length, Some, None, Option, sym, refl, ap, ◌∙◌, subst, arith}
use Rattle.std.proofs.lemmas.List.{length_push}
use Rattle.rules.specs.Names.{Name}
use Rattle.rules.specs.Types.{Ty, File, first_named, type_at, is_nested}
use Rattle.rules.specs.Trees.{Tree, node, Forest, none, more, size, sizes}
use Rattle.rules.specs.Preorder.{Spanned}
use Rattle.rules.specs.Expressions.{Exprs, name_of_column, path_of}
use Rattle.rules.specs.Findings.{Finding, accessed, through, unsupported, is_supported, is_map_root, is_nested_cast, step_on, access_on, path_step, get_field_step, cast_on, cast_step, findings, findings_in}
use Rattle.format.specs.declared.kinds.NodeKind.{NodeKind}
use Rattle.format.specs.declared.kinds.NodeKind.TheVariants.{Column, GetField, Cast, IsNull, IsNotNull, ScalarFunction, Operator}
use Rattle.format.specs.declared.records.NodeRecord.{NodeRecord}
use Rattle.format.specs.Kinds.{node_kind_of}
use Rattle.format.specs.Records.{name_bytes}
use Rattle.sheet.specs.declared.sheet.Sheet.{Sheet}
use Rattle.sheet.specs.Seen.{names_in, nodes_in}
use Rattle.sheet.specs.SheetTrees.{node_tree}
use Rattle.sheet.specs.SheetExpressions.{expr_at, expr_of, exprs_of, by_node_kind, type_at_place}
use Rattle.sheet.proofs.Sheets.{node_stands}
use Rattle.sheet.proofs.NodeReaders.{node_span, node_unrolled}
use Rattle.checker.specs.Notes.{Notes, note, noted}

-- how many accesses and casts are found
abbrev pub recorded : List Finding → ℕ
recorded [] = 0
recorded (accessed j p ∷ fs) = suc (recorded fs)
recorded (through j g ∷ fs) = suc (recorded fs)
recorded (_ ∷ fs) = recorded fs

abbrev pub total : Notes → ℕ
total n = length n.accesses + length n.casts

-- they are noted one by one
pub total_noted : (n : Notes) (fs : List Finding) → total (noted n fs) ≡ total n + recorded fs
total_noted n [] = omega arith
total_noted n (accessed j p ∷ fs) = omega (arith, total_noted (note n (accessed j p)) fs, length_push n.accesses (Some (j, p)))
total_noted n (through j g ∷ fs) = omega (arith, total_noted (note n (through j g)) fs, length_push n.casts (Some (j, g)))
total_noted n (f ∷ fs) = total_noted (note n f) fs

recorded_append : (fs gs : List Finding) → recorded (fs ++ gs) ≡ recorded fs + recorded gs
recorded_append [] gs = omega arith
recorded_append (accessed j p ∷ fs) gs = omega (arith, recorded_append fs gs)
recorded_append (through j g ∷ fs) gs = omega (arith, recorded_append fs gs)
recorded_append (_ ∷ fs) gs = recorded_append fs gs

module _ (file : File) (lists casts : Bool) where
  -- a column by itself is not recorded, and one along a path once
  flat : (b : Bool) → recorded (cond b (unsupported ∷ []) []) ≡ 0
  flat true = refl
  flat false = refl

  on_none : (o : Option ℕ) → recorded (step_on file lists casts o) ≡ 0
  on_none None = refl
  on_none (Some j) = flat (is_nested (type_at file j) && not (is_supported file lists casts (type_at file j)))

  on_one : (path : List Name) (o : Option ℕ) → recorded (access_on file lists casts path o) ≤ 1
  on_one path None = omega arith
  on_one path (Some j) = omega arith

  path_one : (name : Name) (o : Option (List Name)) → recorded (path_step file lists casts name o) ≤ 1
  path_one name None = omega (arith, on_none (first_named name 0 file))
  path_one name (Some path) = on_one path (first_named name 0 file)

  pick : (b : Bool) (fs gs : List Finding) (m : ℕ) → 2 * recorded fs ≤ m → 2 * recorded gs ≤ m → 2 * recorded (cond b fs gs) ≤ m
  pick true fs gs m f g = f
  pick false fs gs m f g = g

  field_few : (t : Ty) (o : Option Name) (es : Exprs) (inside : List Finding) (m : ℕ) → 2 ≤ m → 2 * recorded inside ≤ m → 2 * recorded (get_field_step file lists casts t o es inside) ≤ m
  field_few t None es inside m two h = h
  field_few t (Some name) es inside m two h =
      pick (not (is_map_root file lists casts (first_named name 0 file)) && (not (is_nested t) || is_supported file lists casts t)) (path_step file lists casts name (path_of es)) inside m
      (omega (arith, path_one name (path_of es))) h

  cast_on_few : (g : Ty) (o : Option ℕ) (inside : List Finding) (m : ℕ) → 2 ≤ m → 2 * recorded inside ≤ m → 2 * recorded (cast_on file lists casts g o inside) ≤ m
  cast_on_few g None inside m two h = h
  cast_on_few g (Some j) inside m two h = pick (casts && is_nested_cast (type_at file j) g) (through j g ∷ []) inside m (omega arith) h

  cast_few : (g : Ty) (o : Option Name) (inside : List Finding) (m : ℕ) → 2 ≤ m → 2 * recorded inside ≤ m → 2 * recorded (cast_step file lists casts g o inside) ≤ m
  cast_few g None inside m two h = h
  cast_few g (Some name) inside m two h = cast_on_few g (first_named name 0 file) inside m two h

  -- a tree has a node
  size_some : (t : Tree NodeRecord) → 1 ≤ size t
  size_some (node r f) = omega arith

  module _ (s : Sheet) where
    abbrev Few : Tree NodeRecord → Type 0
    Few t = 2 * recorded (findings file lists casts (expr_of s t)) ≤ size t

    abbrev Fews : Forest NodeRecord → Type 0
    Fews f = 2 * recorded (findings_in file lists casts (exprs_of s f)) ≤ sizes f

    -- one node, with what is below it
    kind_few : (o : Option NodeKind) (r : NodeRecord) (f : Forest NodeRecord) → Fews f → (firsts : (t : Tree NodeRecord) (g : Forest NodeRecord) → f ≡ more t g → Few t) → 2 * recorded (findings file lists casts (by_node_kind s o r (exprs_of s f))) ≤ suc (sizes f)
    kind_few (Some Column) r f h firsts = omega (arith, on_none (first_named (name_bytes (names_in s) r.name) 0 file))
    kind_few (Some GetField) r none h firsts = omega arith
    kind_few (Some GetField) r (more t f) h firsts = field_few (type_at_place s r.type_place) (name_of_column (expr_of s t)) (exprs_of s f) (findings_in file lists casts (exprs_of s (more t f))) (suc (sizes (more t f))) (omega (arith, size_some t)) (omega (arith, h))
    kind_few (Some Cast) r none h firsts = omega arith
    kind_few (Some Cast) r (more t f) h firsts = cast_few (type_at_place s r.type_place) (name_of_column (expr_of s t)) (findings file lists casts (expr_of s t)) (suc (sizes (more t f))) (omega (arith, size_some t)) (omega (arith, firsts t f refl))
    kind_few (Some IsNull) r none h firsts = omega arith
    kind_few (Some IsNull) r (more t f) h firsts = omega (arith, firsts t f refl)
    kind_few (Some IsNotNull) r none h firsts = omega arith
    kind_few (Some IsNotNull) r (more t f) h firsts = omega (arith, firsts t f refl)
    kind_few (Some ScalarFunction) r f h firsts = omega (arith, h)
    kind_few (Some Operator) r f h firsts = omega (arith, h)
    kind_few _ r f h firsts = omega arith

    mutual
      tree_few : (t : Tree NodeRecord) → Few t
      tree_few (node r f) = kind_few (node_kind_of r.kind) r f (forest_few f) (first_few f)

      forest_few : (f : Forest NodeRecord) → Fews f
      forest_few none = omega arith
      forest_few (more t f) = omega (arith, recorded_append (findings file lists casts (expr_of s t)) (findings_in file lists casts (exprs_of s f)), tree_few t, forest_few f)

      first_few : (f : Forest NodeRecord) (t : Tree NodeRecord) (g : Forest NodeRecord) → f ≡ more t g → Few t
      first_few none t g e = absurd (omega (arith, ap sizes e, size_some t))
      first_few (more u f) t g e = subst Few (same e) (tree_few u)
        where
          same : more u f ≡ more t g → u ≡ t
          same e = cc

    size_is : (p : ℕ) → p < length (nodes_in s) → node_span s p ≡ size (node_tree s p)
    size_is p h =
        let unrolled = node_unrolled s p h in
        (subst (λ (t : Tree NodeRecord). Spanned (λ n. n.children) (λ n. n.span) t) unrolled (node_stands s p h).spans).0 ∙ ap size (sym unrolled)

    pub few_recorded : (p : ℕ) → p < length (nodes_in s) → 2 * recorded (findings file lists casts (expr_at s p)) ≤ node_span s p
    few_recorded p h = omega (arith, tree_few (node_tree s p), size_is p h)
