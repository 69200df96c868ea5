use Rattle.plan_finder.specs.Columns.{AreColumns}
use Rattle.plan_finder.specs.Finding.{IsFittingPlan}
use Rattle.plan_finder.proofs.ladder.Ladder.try_sets_in.Given as goal

-- the columns are of the book, and the best plan so far is legal, fits and has its cost
abbrev pub invariant-loop-i : goal.invariant-loop-i
invariant-loop-i l = record {
  columns : AreColumns l.problem l.columns;
  best : IsFittingPlan l.problem.table.now l.problem.book.now l.ground.marks.now.facts l.best.cost l.best.plan;
}
