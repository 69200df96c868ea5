use Rattle.std.specs.Prelude.{ℕ, ◌<◌}
use Rattle.branch_marks.specs.Marks.{Fits}
use Rattle.tail_book.specs.Plan.{route_of}
use Rattle.plan_finder.proofs.judging.all_fit.Given as goal

-- the routes so far fit
abbrev pub invariant-loop-k : goal.invariant-loop-k
invariant-loop-k l = (k : ℕ) → k < l.k → Fits l.problem.book.now l.marks.facts k (route_of l.routes k)
