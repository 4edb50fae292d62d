use Rattle.std.proofs.Common.{◌<◌, ◌≤◌, rules, tests}
use Rattle.std.proofs.lemmas.Iterator.{YieldsList-from_slice, IsFirst-from_position}
use Rattle.planner.proofs.Unknown.{first_unknown}
use Rattle.planner.proofs.projection_read_plan.first_unknown.Goals as goal

pub returns : goal.returns
returns c =
    let n = c.count-count.result in
    first_unknown n c.args.roots.now _ c.position.result c.count-count.ensures
    (IsFirst-from_position _ _ c.position.result (λ x. n ≤ x) (λ x. x < n) c.position.ensures.ran (YieldsList-from_slice c.args.roots.now cc) (λ x q e. search (rules, tests)) (λ x q e. search (rules, tests)))
