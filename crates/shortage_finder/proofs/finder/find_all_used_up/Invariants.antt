use Rattle.plan_shortage.specs.inside.Pricing.{IsSurplusPricerOf}
use Rattle.shortage_finder.proofs.finder.find_all_used_up.Given as goal

-- the pricer is of the book
abbrev pub invariant-loop-c : goal.invariant-loop-c
invariant-loop-c l = IsSurplusPricerOf l.book l.pricer
