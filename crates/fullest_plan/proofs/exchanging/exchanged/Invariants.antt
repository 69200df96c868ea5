use Rattle.fullest_plan.specs.inside.Seeker.{IsSeekerOf}
use Rattle.fullest_plan.proofs.exchanging.exchanged.Given as goal

-- what seeks routes stays made for the book
abbrev pub invariant-loop-seed : goal.invariant-loop-seed
invariant-loop-seed l = IsSeekerOf l.book l.seeker
