use Rattle.plan_audit.proofs.Told.{curfews_told}
use Rattle.plan_audit.proofs.laws.curfews_are_in_the_way.Goals as goal

pub returns : goal.returns
returns c = curfews_told
