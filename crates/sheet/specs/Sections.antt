-- The sections of a layout that lies inside so many bytes lie there. Assumes nothing.
use Rattle.std.specs.Prelude.{ℕ}
use Rattle.std.proofs.Common.{lit<}
use Rattle.format.specs.declared.layout.Layout.{Layout}
use Rattle.format.specs.Format.{Laid}
use Rattle.format.specs.Records.{Inside}

module _ (l : Layout) (bytes : ℕ) (h : Laid l bytes) where
  pub laid_types : Inside 12 l.types.count l.types.start bytes
  laid_types = h 1 (lit< tt)

  pub laid_roots : Inside 2 l.roots.count l.roots.start bytes
  laid_roots = h 2 (lit< tt)

  pub laid_leaves : Inside 6 l.leaves.count l.leaves.start bytes
  laid_leaves = h 3 (lit< tt)

  pub laid_parts : Inside 4 l.parts.count l.parts.start bytes
  laid_parts = h 4 (lit< tt)

  pub laid_elements : Inside 6 l.elements.count l.elements.start bytes
  laid_elements = h 5 (lit< tt)

  pub laid_nodes : Inside 24 l.nodes.count l.nodes.start bytes
  laid_nodes = h 6 (lit< tt)

  pub laid_expressions : Inside 2 l.expressions.count l.expressions.start bytes
  laid_expressions = h 7 (lit< tt)
