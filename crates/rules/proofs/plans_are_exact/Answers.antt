use Rattle.rules.proofs.PlanExact.{plans_exact}
use Rattle.rules.proofs.plans_are_exact.Goals as goal

pub returns : goal.returns
returns c = plans_exact
