use Rattle.std.proofs.Common.{◌≡◌, ◌-◌, ◌<◌, length}
use Rattle.sheet.specs.Seen.{elements_in}
use Rattle.directory.specs.Rows.{upward}
use Rattle.directory.proofs.flattened.answers.climb.Given as goal

abbrev pub invariant-loop-k : goal.invariant-loop-k
invariant-loop-k l = (l.at < length (elements_in l.sheet)) × (upward l.parents (l.steps - l._k) l.at ≡ upward l.parents l.steps l.from)
