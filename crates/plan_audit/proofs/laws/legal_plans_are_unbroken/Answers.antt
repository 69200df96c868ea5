use Rattle.plan_audit.proofs.Converse.{legal_is_unbroken}
use Rattle.plan_audit.proofs.laws.legal_plans_are_unbroken.Goals as goal

pub returns : goal.returns
returns c = legal_is_unbroken c.legal_route_decides.ensures
