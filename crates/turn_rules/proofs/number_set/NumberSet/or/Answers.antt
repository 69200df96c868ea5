use Rattle.turn_rules.specs.inside.NumberSet.{has}
use Rattle.turn_rules.proofs.NumberSets.{either_bit}
use Rattle.turn_rules.proofs.number_set.NumberSet.or.Goals as goal

pub returns : goal.returns
unfolding has
returns c = λ i. either_bit c.args.self.bits c.args.other.bits i
