-- Bytes without a fault are a sheet. Assumes nothing.
use Rattle.std.proofs.Common.{◌≡◌, ℕ, Bool, false, List, length, is_some, None, Ok, Result, sym, ap, subst, arith}
use Rattle.rules.specs.Searches.{first_failing}
use Rattle.rules.proofs.Searches.{neither, all_pass}
use Rattle.format.specs.declared.fault.Fault.{Fault}
use Rattle.format.specs.declared.layout.Layout.{Layout}
use Rattle.format.specs.Format.{Tables, Laid, Few, Each, types_at, roots_at, leaves_at, parts_at, elements_at, nodes_at, expressions_at, tables_at, fault_of, answer, opened}
use Rattle.format.specs.Good.{good_type, good_node, fair_at, fair_root, fair_leaf, fair_part, fair_expression, first_bad_element}
use Rattle.format.specs.Layouts.{layout_of}
use Rattle.format.specs.Records.{type_from, root_from, leaf_from, name_from, node_from, expression_from, no_root, no_leaf, no_name, no_expression}
use Rattle.format.proofs.Headers.{laid, fewer, none_mapped}
use Rattle.format.proofs.Tables.{length-table}

-- what holds of a sheet's bytes and their layout
pub record Sound (l : Layout) (bs : List ℕ) : Type 0 where
  pub laid_out : Laid l (length bs)
  pub few : Few l
  pub types : Each l.types.count (good_type l (types_at l bs))
  pub roots : Each l.roots.count (fair_at (fair_root l) no_root (roots_at l bs))
  pub leaves : Each l.leaves.count (fair_at (fair_leaf l) no_leaf (leaves_at l bs))
  pub parts : Each l.parts.count (fair_at (fair_part l) no_name (parts_at l bs))
  pub elements : is_some (first_bad_element l (elements_at l bs)) ≡ false
  pub nodes : Each l.nodes.count (good_node l (nodes_at l bs))
  pub expressions : Each l.expressions.count (fair_at (fair_expression l) no_expression (expressions_at l bs))
  pub whole : ◌≡◌ {A = Result Tables (Fault × List ℕ)} (Ok (tables_at l bs)) (opened bs)

passes : (ok : ℕ → Bool) (n m : ℕ) → m ≡ n → None ≡ first_failing ok 0 m → Each n ok
passes ok n m e f p h = all_pass ok m 0 f p (omega arith) (omega arith)

module _ (bs : List ℕ) (none : fault_of bs ≡ None) where
  abbrev l : Layout
  l = layout_of bs

  sound_at : Sound l bs
  sound_at =
      let f = neither _ _ none in
      let a = neither _ _ f.1 in
      let b = neither _ _ a.1 in
      let c = neither _ _ b.1 in
      let d = neither _ _ c.1 in
      let e = neither _ _ d.1 in
      let g = neither _ _ e.1 in
      let h = neither _ _ g.1 in
      record {
        laid_out = laid bs f.0;
        few = fewer bs f.0;
        types = passes (good_type l (types_at l bs)) l.types.count _ (length-table 12 type_from bs l.types.start l.types.count) (none_mapped _ _ a.0);
        roots = passes (fair_at (fair_root l) no_root (roots_at l bs)) l.roots.count _ (length-table 2 root_from bs l.roots.start l.roots.count) (none_mapped _ _ b.0);
        leaves = passes (fair_at (fair_leaf l) no_leaf (leaves_at l bs)) l.leaves.count _ (length-table 6 leaf_from bs l.leaves.start l.leaves.count) (none_mapped _ _ c.0);
        parts = passes (fair_at (fair_part l) no_name (parts_at l bs)) l.parts.count _ (length-table 4 name_from bs l.parts.start l.parts.count) (none_mapped _ _ d.0);
        elements = ap is_some (sym (none_mapped _ _ e.0));
        nodes = passes (good_node l (nodes_at l bs)) l.nodes.count _ (length-table 24 node_from bs l.nodes.start l.nodes.count) (none_mapped _ _ g.0);
        expressions = passes (fair_at (fair_expression l) no_expression (expressions_at l bs)) l.expressions.count _ (length-table 2 expression_from bs l.expressions.start l.expressions.count) (none_mapped _ _ h.0);
        whole = ap (answer bs) (sym none);
      }

pub sound : (bs ds : List ℕ) (l : Layout) → ds ≡ bs → (fault_of ds ≡ None) × (l ≡ layout_of ds) → Sound l bs
sound bs ds l e h =
    let k = subst (λ xs. (fault_of xs ≡ None) × (l ≡ layout_of xs)) e h in
    subst (λ m. Sound m bs) (sym k.1) (sound_at bs k.0)
