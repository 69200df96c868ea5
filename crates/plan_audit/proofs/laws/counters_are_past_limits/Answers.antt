use Rattle.plan_audit.proofs.Told.{counters_told}
use Rattle.plan_audit.proofs.laws.counters_are_past_limits.Goals as goal

pub returns : goal.returns
returns c = counters_told
