-- What a reader knows of every sheet. Assumes nothing.
use Rattle.std.proofs.Common.{◌≡◌, ℕ, ◌+◌, ◌<◌, ◌≤◌, true, List, ◌++◌, length, get_or, take, drop, vec_items, sym, ap, ◌∙◌, arith, lit<, length-append, length-drop}
use Rattle.std.proofs.lemmas.List.{get_or-drop, take-append-le, take_all}
use Rattle.std.proofs.lemmas.Bool.{and_parts, ltb-true}
use Rattle.rules.specs.Preorder.{placed, Spanned, Stands}
use Rattle.rules.specs.Trees.{Tree, node, label, preorder, size}
use Rattle.rules.proofs.Forests.{length-preorder}
use Rattle.rules.proofs.Spans.{tree_stands}
use Rattle.sheet.specs.declared.sheet.Sheet.{Sheet}
use Rattle.format.specs.declared.records.TypeRecord.{TypeRecord}
use Rattle.format.specs.declared.records.NodeRecord.{NodeRecord}
use Rattle.format.specs.Records.{no_root, type_from, root_from, leaf_from, name_from, element_from, node_from, no_type, no_node, by_place}
use Rattle.sheet.specs.Seen.{types_in, roots_in, leaves_in, parts_in, elements_in, nodes_in}
use Rattle.sheet.specs.SheetTrees.{type_tree, node_tree, TreesStand}
use Rattle.format.proofs.Tables.{length-table}

label_at : {A : Type 0} (t : Tree A) (xs rest : List A) (p : ℕ) (d : A) → preorder t ++ rest ≡ drop p xs → label t ≡ get_or xs p d
label_at (node a f) xs rest p d e =
    let z : p + 0 ≡ p = omega arith in
    ap (λ w. get_or w 0 d) e ∙ get_or-drop p xs 0 d ∙ ap (λ q. get_or xs q d) z

span_is : {A : Type 0} (children span : A → ℕ) (t : Tree A) → Spanned children span t → span (label t) ≡ size t
span_is children span (node a f) h = h.0

module _ (s : Sheet) where
  abbrev bs : List ℕ
  bs = vec_items s.bytes

  pub type_count_lem : length (types_in s) ≡ s.layout.types.count
  type_count_lem = length-table 12 type_from bs s.layout.types.start s.layout.types.count

  pub root_count_lem : length (roots_in s) ≡ s.layout.roots.count
  root_count_lem = length-table 2 root_from bs s.layout.roots.start s.layout.roots.count

  pub leaf_count_lem : length (leaves_in s) ≡ s.layout.leaves.count
  leaf_count_lem = length-table 6 leaf_from bs s.layout.leaves.start s.layout.leaves.count

  pub part_count : length (parts_in s) ≡ s.layout.parts.count
  part_count = length-table 4 name_from bs s.layout.parts.start s.layout.parts.count

  pub element_count_lem : length (elements_in s) ≡ s.layout.elements.count
  element_count_lem = length-table 6 element_from bs s.layout.elements.start s.layout.elements.count

  pub node_count_lem : length (nodes_in s) ≡ s.layout.nodes.count
  node_count_lem = length-table 24 node_from bs s.layout.nodes.start s.layout.nodes.count

  pub few_types : length (types_in s) ≤ 2048
  few_types = omega (arith, type_count_lem, s.few 1 (lit< tt))

  pub few_roots : length (roots_in s) ≤ 256
  few_roots = omega (arith, root_count_lem, s.few 2 (lit< tt))

  pub few_leaves : length (leaves_in s) ≤ 1024
  few_leaves = omega (arith, leaf_count_lem, s.few 3 (lit< tt))

  pub few_elements : length (elements_in s) ≤ 1024
  few_elements = omega (arith, element_count_lem, s.few 5 (lit< tt))

  pub types_placed : (p : ℕ) → p < length (types_in s) → placed (by_place (λ t. t.children) no_type (types_in s)) (by_place (λ t. t.span) no_type (types_in s)) (length (types_in s)) 32 p ≡ true
  types_placed p h = (and_parts _ _ (s.types p (omega (arith, type_count_lem)))).1

  pub nodes_placed : (p : ℕ) → p < length (nodes_in s) → placed (by_place (λ t. t.children) no_node (nodes_in s)) (by_place (λ t. t.span) no_node (nodes_in s)) (length (nodes_in s)) 32 p ≡ true
  nodes_placed p h = (and_parts _ _ (s.nodes p (omega (arith, node_count_lem)))).1

  pub type_stands : (p : ℕ) → p < length (types_in s) → Stands (λ (t : TypeRecord). t.children) (λ t. t.span) (types_in s) p (type_tree s p) 32
  type_stands = tree_stands (λ (t : TypeRecord). t.children) (λ t. t.span) no_type (types_in s) 32 types_placed

  pub node_stands : (p : ℕ) → p < length (nodes_in s) → Stands (λ (n : NodeRecord). n.children) (λ n. n.span) (nodes_in s) p (node_tree s p) 32
  node_stands = tree_stands (λ (n : NodeRecord). n.children) (λ n. n.span) no_node (nodes_in s) 32 nodes_placed

  pub trees_stand_lem : TreesStand s
  trees_stand_lem = (type_stands, node_stands)

  -- the type that a root names is there
  pub root_place : (r : ℕ) → r < length (roots_in s) → (get_or (roots_in s) r no_root).type_place < length (types_in s)
  root_place r h = let good = ltb-true _ _ (s.roots r (omega (arith, root_count_lem))) in omega (arith, good, type_count_lem)

  module _ (p : ℕ) (h : p < length (types_in s)) where
    abbrev here : Tree TypeRecord
    here = type_tree s p

    -- the top of the tree is the record at the place
    pub type_label : label here ≡ get_or (types_in s) p no_type
    type_label = label_at here (types_in s) _ p no_type (type_stands p h).written

    -- the span of a type counts the records of its tree, which stand from there on
    pub type_size : (get_or (types_in s) p no_type).span ≡ size here
    type_size =
        let st = type_stands p h in
        ap (λ (t : TypeRecord). t.span) (sym type_label) ∙ span_is (λ (t : TypeRecord). t.children) (λ t. t.span) here st.spans

    pub type_within : p + size here ≤ length (types_in s)
    type_within =
        let e = ap length (type_stands p h).written in
        omega (arith, e, length-append (preorder here) (drop (p + size here) (types_in s)), length-preorder here, length-drop p (types_in s))

    pub type_records : take (size here) (drop p (types_in s)) ≡ preorder here
    type_records =
        let n = length-preorder here in
        ap (take (size here)) (sym (type_stands p h).written)
        ∙ take-append-le (size here) (preorder here) (drop (p + size here) (types_in s)) (omega (arith, n))
        ∙ take_all (size here) (preorder here) (omega (arith, n))
