use Rattle.plan_audit.proofs.Told.{uncovered_told}
use Rattle.plan_audit.proofs.laws.uncovered_are_in_no_route.Goals as goal

pub returns : goal.returns
returns c = uncovered_told
