use Rattle.shortage_report.proofs.Telling.{leave_no_plan}
use Rattle.shortage_report.proofs.laws.true_whys_leave_no_plan.Goals as goal

pub returns : goal.returns
returns c = leave_no_plan c.shortages_leave_no_plan.ensures
