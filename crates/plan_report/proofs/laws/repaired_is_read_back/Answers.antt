use Rattle.plan_report.proofs.ReadBack.{repaired_back}
use Rattle.plan_report.proofs.laws.repaired_is_read_back.Goals as goal

pub returns : goal.returns
returns c = repaired_back
