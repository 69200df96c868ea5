use Rattle.plan_repair.proofs.ReportLemmas.{can_be_written}
use Rattle.plan_repair.proofs.laws.true_repairs_can_be_written.Goals as goal

pub returns : goal.returns
returns c = can_be_written c.legal_plans_fly_the_book.ensures
