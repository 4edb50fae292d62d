use Rattle.rules.proofs.ClipExact.{clips_exact}
use Rattle.rules.proofs.clips_are_exact.Goals as goal

pub returns : goal.returns
returns c = clips_exact
