use Rattle.plan_report.proofs.Writable.{can_be_written}
use Rattle.plan_report.proofs.laws.true_outcomes_can_be_written.Goals as goal

pub returns : goal.returns
returns c = can_be_written c.legal_routes_rise.ensures
