use Rattle.plan_repair.proofs.RungLemmas.{least_of_fewest}
use Rattle.plan_repair.proofs.laws.least_of_fewest_is_repair.Goals as goal

pub returns : goal.returns
returns c = least_of_fewest
