use Rattle.plan_audit.proofs.Unbroken.{unbroken_is_legal}
use Rattle.plan_audit.proofs.laws.unbroken_plans_are_legal.Goals as goal

pub returns : goal.returns
returns c = unbroken_is_legal c.legal_plan_decides.ensures
