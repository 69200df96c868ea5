use Rattle.plan_audit.proofs.NamedPlans.{named_kept}
use Rattle.plan_audit.proofs.laws.named_plans_are_kept.Goals as goal

pub returns : goal.returns
returns c = named_kept
