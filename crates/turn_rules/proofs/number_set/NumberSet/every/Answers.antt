use Rattle.turn_rules.specs.inside.NumberSet.{has}
use Rattle.turn_rules.proofs.NumberSets.{every_bit}
use Rattle.turn_rules.proofs.number_set.NumberSet.every.Goals as goal

pub returns : goal.returns
unfolding has
returns c = λ i lt. every_bit i lt
