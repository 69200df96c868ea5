use Rattle.plan_shortage.specs.inside.Pricing.{IsSurplusPricerOf}
use Rattle.shortage_finder.specs.Found.{IsFoundIn}
use Rattle.shortage_finder.proofs.shrinking.shrunk.Given as goal

-- the pricer is of the book, and the smallest so far is a shortage
abbrev pub invariant-loop-turn : goal.invariant-loop-turn
invariant-loop-turn l = record {
  pricer : IsSurplusPricerOf l.book l.pricer;
  found : IsFoundIn l.book l.least;
}
