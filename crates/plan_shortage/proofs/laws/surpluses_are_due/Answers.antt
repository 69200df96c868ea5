use Rattle.plan_shortage.proofs.Due as due
use Rattle.plan_shortage.proofs.laws.surpluses_are_due.Goals as goal

pub returns : goal.returns
returns c = due.surpluses_are_due c.total_of_legal_plan.ensures
