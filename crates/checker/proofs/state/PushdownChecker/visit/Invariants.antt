use Rattle.std.proofs.Common.{◌-◌}
use Rattle.checker.specs.Found.{found}
use Rattle.checker.specs.Notes.{noted}
use Rattle.checker.specs.Settings.{sheet_of, findings_at}
use Rattle.checker.proofs.Walking.{Walking}
use Rattle.checker.proofs.state.PushdownChecker.visit.Given as goal

abbrev pub invariant-loop-at : goal.invariant-loop-at
invariant-loop-at l =
    let k = l.initial.self in
    Walking (sheet_of k) k.allow_list_columns k.collect_cast_accesses (noted (found k) (findings_at k l.place)) l.place l.at l.end l.self

abbrev pub decreases-loop-at : goal.decreases-loop-at
decreases-loop-at l = l.end - l.at
