use Rattle.std.proofs.Common.{◌≡◌, ◌≤ℤ◌, ℤ, List, length, w64, to_z, of_z, arith}
use Rattle.std.proofs.lemmas.Int.{ints, clamps, to_z-of_z}
use Rattle.restricted_master.specs.declared.choice.Choice.{Choice}
use Rattle.restricted_master.specs.inside.Choices.{IsTaken, IsTakenOnce, IsBest, SwitchingPricesAreBest}
use Rattle.restricted_master.proofs.LeastPrices.{taken_from, once_below}
use Rattle.restricted_master.proofs.switching.best_dual.Goals as goal

between : (low high : ℤ) (choices : List Choice) (least second dual : ℤ) → SwitchingPricesAreBest → low ≤ℤ least → second ≤ℤ high
    → IsTaken low high choices (length choices) least → IsTakenOnce low choices (length choices) second → least ≤ℤ dual → dual ≤ℤ second
    → IsBest low high choices dual
between low high choices least second dual law from to taken once above below =
    law low high choices dual (record { least = omega (arith, ints, from, above); most = omega (arith, ints, to, below) })
    (taken_from low high choices (length choices) least dual taken above (omega (arith, ints, to, below)))
    (once_below low choices (length choices) second dual once below)

-- the dual is moved to the least price or to the second, or stays between them
pub returns-clause-within : goal.returns-clause-within
returns-clause-within c = record {
  least = omega (arith, ints, clamps, c.lesser.ensures, c.lesser.type_inv, c.greater.ensures, c.greater.type_inv);
  most = omega (arith, ints, clamps, c.lesser.ensures, c.lesser.type_inv, c.greater.ensures, c.greater.type_inv);
}

pub returns-clause-best : goal.returns-clause-best
returns-clause-best c = λ other within.
    let low : to_z w64 (of_z w64 c.args.low) ≡ c.args.low = to_z-of_z w64 c.args.low c.ranges.low in
    let high : to_z w64 (of_z w64 c.args.high) ≡ c.args.high = to_z-of_z w64 c.args.high c.ranges.high in
    between _ _ c.args.choices.now c.least_prices-prices.result.least c.least_prices-prices.result.second (to_z w64 (of_z w64 c.lesser.result))
    c.switching_prices_are_best.ensures c.least_prices-prices.ensures.least c.least_prices-prices.ensures.most
    c.least_prices-prices.ensures.taken c.least_prices-prices.ensures.once
    (omega (arith, ints, clamps, c.lesser.ensures, c.lesser.type_inv, c.greater.ensures, c.greater.type_inv, c.least_prices-prices.ensures.order))
    (omega (arith, ints, clamps, c.lesser.ensures, c.lesser.type_inv, c.greater.ensures, c.greater.type_inv, c.least_prices-prices.ensures.order))
    other (record { least = rw low within.least; most = rw high within.most })
