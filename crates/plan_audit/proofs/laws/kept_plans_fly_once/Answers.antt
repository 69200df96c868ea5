use Rattle.plan_audit.proofs.KeptOnce.{kept_once}
use Rattle.plan_audit.proofs.laws.kept_plans_fly_once.Goals as goal

pub returns : goal.returns
returns c = kept_once
