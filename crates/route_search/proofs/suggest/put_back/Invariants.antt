use Rattle.std.proofs.Common.{ℕ, suc, Option, None, Some}
use Rattle.pricing.specs.inside.Truth.{IsKept}
use Rattle.route_search.proofs.suggest.put_back.Given as goal

abbrev pub invariant-loop-at : goal.invariant-loop-at
invariant-loop-at l = IsKept l.store l.at

-- how many rows there may be at most from a row back to the carry-in
abbrev turns_of : Option ℕ → ℕ
turns_of None = 0
turns_of (Some j) = suc j

abbrev pub decreases-loop-at : goal.decreases-loop-at
decreases-loop-at l = turns_of l.at
