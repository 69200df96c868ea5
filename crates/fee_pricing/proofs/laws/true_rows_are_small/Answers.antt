use Rattle.fee_pricing.proofs.FairSums.{true_small}
use Rattle.fee_pricing.proofs.laws.true_rows_are_small.Goals as goal

pub returns : goal.returns
returns c = true_small c.legal_routes_rise.ensures c.rising_routes_are_short.ensures c.rising_routes_are_below.ensures
