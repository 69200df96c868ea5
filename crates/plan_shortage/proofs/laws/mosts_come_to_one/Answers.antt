use Rattle.plan_shortage.proofs.MostLemmas.{come_to_one}
use Rattle.plan_shortage.proofs.laws.mosts_come_to_one.Goals as goal

pub returns : goal.returns
returns c = come_to_one
