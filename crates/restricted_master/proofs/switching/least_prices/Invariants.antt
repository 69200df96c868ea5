use Rattle.restricted_master.proofs.LeastPrices.{AreLeastPrices}
use Rattle.restricted_master.proofs.switching.least_prices.Given as goal

-- they are the two least prices of those so far
abbrev pub invariant-loop-k : goal.invariant-loop-k
invariant-loop-k l = AreLeastPrices l.low l.high l.choices l.k l.prices.least l.prices.second
