use Rattle.plan_report.proofs.ReadBack.{read_back}
use Rattle.plan_report.proofs.laws.report_is_read_back.Goals as goal

pub returns : goal.returns
returns c = read_back
