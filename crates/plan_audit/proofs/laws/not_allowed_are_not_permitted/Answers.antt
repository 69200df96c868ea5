use Rattle.plan_audit.proofs.Told.{not_allowed_told}
use Rattle.plan_audit.proofs.laws.not_allowed_are_not_permitted.Goals as goal

pub returns : goal.returns
returns c = not_allowed_told
