use Rattle.sheet.proofs.Sheets.{trees_stand_lem}
use Rattle.sheet.proofs.sheet.Sheet.trees_stand.Goals as goal

pub returns : goal.returns
returns c = trees_stand_lem c.args.self.now
