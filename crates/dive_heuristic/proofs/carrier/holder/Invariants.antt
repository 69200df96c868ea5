use Rattle.std.proofs.Common.{◌≡◌, ◌<◌, ℕ, false}
use Rattle.tail_book.specs.Numbers.{contains}
use Rattle.tail_book.specs.Plan.{route_of}
use Rattle.dive_heuristic.proofs.carrier.holder.Given as goal

-- no route so far has it
abbrev pub invariant-loop-k : goal.invariant-loop-k
invariant-loop-k l = (j : ℕ) → j < l.k → contains (route_of l.routes j) l.a ≡ false
