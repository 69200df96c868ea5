use Rattle.fee_pricing.proofs.FairSums.{fees_fair}
use Rattle.fee_pricing.proofs.laws.fees_are_fair.Goals as goal

pub returns : goal.returns
returns c = fees_fair
