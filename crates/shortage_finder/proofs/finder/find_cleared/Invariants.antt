use Rattle.plan_shortage.specs.inside.Pricing.{IsSurplusPricerOf}
use Rattle.shortage_finder.proofs.finder.find_cleared.Given as goal

-- the pricer is of the book
abbrev pub invariant-loop-g : goal.invariant-loop-g
invariant-loop-g l = IsSurplusPricerOf l.book l.pricer
