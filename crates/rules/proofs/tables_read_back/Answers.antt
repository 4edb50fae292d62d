use Rattle.rules.proofs.Forests.{reads}
use Rattle.rules.proofs.tables_read_back.Goals as goal

pub returns : goal.returns
returns g c = reads
