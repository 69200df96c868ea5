use Rattle.std.proofs.Common.{ap}
use Rattle.std.specs.Prelude.{nat_eq}
use Rattle.std.proofs.lemmas.Nat.Bits.{shr_and_one}
use Rattle.turn_rules.specs.inside.NumberSet.{has}
use Rattle.turn_rules.proofs.number_set.NumberSet.has.Goals as goal

-- the bit that is shifted to the end
pub returns : goal.returns
unfolding has
returns c = ap (λ b. nat_eq b 1) (shr_and_one c.args.self.bits c.args.number)
