use Rattle.fullest_plan.specs.inside.Seeker.{IsSeekerOf}
use Rattle.fullest_plan.proofs.exchanging.filled.Given as goal

-- what seeks routes stays made for the book
abbrev pub invariant-loop-k : goal.invariant-loop-k
invariant-loop-k l = IsSeekerOf l.book l.seeker
