use Rattle.turn_rules.specs.inside.NumberSet.{has}
use Rattle.turn_rules.proofs.NumberSets.{no_bit}
use Rattle.turn_rules.proofs.number_set.NumberSet.none.Goals as goal

pub returns : goal.returns
unfolding has
returns c = λ i. no_bit i
