use Rattle.std.proofs.Common.{◌≡◌, length, unwrap_or, ap, ◌∙◌, arith}
use Rattle.std.proofs.lemmas.Bool.{le-ltb}
use Rattle.planner.specs.Segments.{parts_of}
use Rattle.planner.proofs.Prefixes.{count_is, prefix_long, prefix_short}
use Rattle.planner.proofs.leaves.has_prefix.Goals as goal

pub returns-then-access-count : goal.returns-then-access-count
returns-then-access-count g c =
    let ls = g.D.LeafDirectory.leaves c.args.directory.now in
    let count : c.unwrap_or-count.result ≡ length (parts_of ls c.args.leaf) = c.unwrap_or-count.ensures ∙ ap (λ o. unwrap_or o 0) c.parts.ensures ∙ count_is ls c.args.leaf in
    c.are_parts.ensures ∙ prefix_long c.args.sheet.now ls c.args.leaf c.args.access (omega (arith, c.if-access-count.true))

pub returns-else-access-count : goal.returns-else-access-count
returns-else-access-count g c =
    let ls = g.D.LeafDirectory.leaves c.args.directory.now in
    let count : c.unwrap_or-count.result ≡ length (parts_of ls c.args.leaf) = c.unwrap_or-count.ensures ∙ ap (λ o. unwrap_or o 0) c.parts.ensures ∙ count_is ls c.args.leaf in
    le-ltb c.args.access.parts c.unwrap_or-count.result c.if-access-count.false ∙ prefix_short c.args.sheet.now ls c.args.leaf c.args.access (omega (arith, c.if-access-count.false))
