use Rattle.std.proofs.Common.{eqb, rules, tests, ◌∙◌}
use Rattle.std.proofs.lemmas.Iterator.{YieldsList-from_slice}
use Rattle.std.proofs.lemmas.Iterator.Search.{position_from_yields_List}
use Rattle.planner.proofs.Listing.{listed_at}
use Rattle.planner.proofs.projection_read_plan.is_listed.Goals as goal

pub returns : goal.returns
returns c =
    let roots = c.args.roots.now in
    let root = c.args.root in
    c.is_some.ensures ∙ listed_at root roots c.position.result (position_from_yields_List (λ listed. eqb listed root) _ _ c.position.result c.position.ensures.ran (YieldsList-from_slice roots cc) (λ x b q k. search (rules, tests)))
