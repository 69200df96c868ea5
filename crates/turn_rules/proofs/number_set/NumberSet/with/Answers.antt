use Rattle.turn_rules.specs.inside.NumberSet.{has}
use Rattle.turn_rules.proofs.NumberSets.{bit_more}
use Rattle.turn_rules.proofs.number_set.NumberSet.with.Goals as goal

pub returns : goal.returns
unfolding has
returns c = λ i. bit_more c.args.self.bits c.args.number i c.requires
