use Rattle.shortage_report.proofs.Telling.{can_be_told}
use Rattle.shortage_report.proofs.laws.shortages_can_be_told.Goals as goal

pub returns : goal.returns
returns c = can_be_told
