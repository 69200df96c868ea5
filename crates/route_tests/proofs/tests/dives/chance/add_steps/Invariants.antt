use Rattle.branch_marks.specs.inside.MarkTables.{AreMarksOf}
use Rattle.route_tests.proofs.tests.dives.chance.add_steps.Given as goal

abbrev pub invariant-loop-step : goal.invariant-loop-step
invariant-loop-step l = AreMarksOf l.book l.marks
