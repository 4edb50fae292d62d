-- What is kept of a tree is no larger. Assumes nothing.
use Rattle.std.proofs.Common.{◌≤◌, arith}
use Rattle.rules.specs.Keeping.{Keep, all, within, among, Keeps, end, without, with}
use Rattle.rules.specs.Trees.{Tree, node, Forest, none, more, count, size, sizes}
use Rattle.format.specs.declared.records.TypeRecord.{TypeRecord}
use Rattle.sheet.specs.KeptTrees.{kept_tree, on_item, kept_forest}

item_small : (change : Tree TypeRecord → Tree TypeRecord) → ((t : Tree TypeRecord) → size (change t) ≤ size t) → (f : Forest TypeRecord) → sizes (on_item change f) ≤ sizes f
item_small change small none = omega arith
item_small change small (more t f) = omega (arith, small t)

mutual
  pub kept_small : (k : Keep) (t : Tree TypeRecord) → size (kept_tree k t) ≤ size t
  kept_small all t = omega arith
  kept_small (within k) (node r f) = omega (arith, item_small (kept_tree k) (kept_small k) f)
  kept_small (among ks) (node r f) = omega (arith, kept_forest_small ks f)

  pub kept_forest_small : (ks : Keeps) (f : Forest TypeRecord) → sizes (kept_forest ks f) ≤ sizes f
  kept_forest_small end f = omega arith
  kept_forest_small (without ks) none = omega arith
  kept_forest_small (without ks) (more t f) = omega (arith, kept_forest_small ks f)
  kept_forest_small (with k ks) none = omega arith
  kept_forest_small (with k ks) (more t f) = omega (arith, kept_small k t, kept_forest_small ks f)

pub kept_forest_few : (ks : Keeps) (f : Forest TypeRecord) → count (kept_forest ks f) ≤ count f
kept_forest_few end f = omega arith
kept_forest_few (without ks) none = omega arith
kept_forest_few (without ks) (more t f) = omega (arith, kept_forest_few ks f)
kept_forest_few (with k ks) none = omega arith
kept_forest_few (with k ks) (more t f) = omega (arith, kept_forest_few ks f)

pub kept_some : (k : Keep) (t : Tree TypeRecord) → 1 ≤ size (kept_tree k t)
kept_some all (node r f) = omega arith
kept_some (within k) (node r f) = omega arith
kept_some (among ks) (node r f) = omega arith
