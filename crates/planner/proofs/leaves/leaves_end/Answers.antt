use Rattle.std.proofs.Common.{◌≡◌, ◌≢◌, Some, sym, subst, rules, tests}
use Rattle.std.proofs.lemmas.Iterator.{first_from_Range}
use Rattle.rules.specs.Leaves.{root_at}
use Rattle.planner.specs.Segments.{Run}
use Rattle.planner.proofs.Runs.{run_found}
use Rattle.planner.proofs.leaves.leaves_end.Goals as goal

pub returns : goal.returns
returns g c =
    let ls = g.D.LeafDirectory.leaves c.args.directory.now in
    subst (Run ls c.args.root c.args.first) (sym c.unwrap_or.ensures)
    (run_found ls c.args.root c.args.first c.count-count.result c.find.result c.count-count.ensures c.requires
    (first_from_Range _ _ _ c.find.result (λ k. root_at ls k ≢ Some c.args.root) (λ k. root_at ls k ≡ Some c.args.root) c.find.ensures.ran (λ k f e. search (rules, tests)) (λ k f e. search (rules, tests))))
