use Rattle.restricted_master.proofs.Prices.{switching_prices_are_best}
use Rattle.restricted_master.proofs.laws.switching_prices_are_best.Goals as goal

pub returns : goal.returns
returns c = switching_prices_are_best
