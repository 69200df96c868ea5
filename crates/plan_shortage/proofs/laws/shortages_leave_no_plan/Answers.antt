use Rattle.plan_shortage.proofs.MostLemmas.{no_plan_is_legal}
use Rattle.plan_shortage.proofs.laws.shortages_leave_no_plan.Goals as goal

pub returns : goal.returns
returns c = no_plan_is_legal c.surpluses_are_due.ensures
