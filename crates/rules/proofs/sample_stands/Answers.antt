use Rattle.std.proofs.Common.{refl}
use Rattle.rules.proofs.sample_stands.Goals as goal

-- all cases at once, by computation
pub returns : goal.returns
returns c = refl
