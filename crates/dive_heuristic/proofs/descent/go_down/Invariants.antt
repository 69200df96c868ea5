use Rattle.branch_marks.specs.inside.BranchTests.{undecided}
use Rattle.branch_marks.specs.inside.MarkTables.{AreMarksOf}
use Rattle.dive_heuristic.specs.Divers.{IsDiverFor}
use Rattle.dive_heuristic.specs.inside.DiveSteps.{AddsSteps, StandsAt}
use Rattle.dive_heuristic.proofs.descent.go_down.Given as goal

-- the steps are those of a dive so far, and it stands before a choice
abbrev pub invariant-loop-k : goal.invariant-loop-k
invariant-loop-k l = record {
  marks : AreMarksOf l.book l.marks;
  goes : AddsSteps l.table l.book l.duals.values l.initial.marks.facts l.marks.facts l.initial.steps.items l.steps.items;
  stands : StandsAt l.table l.book l.marks.facts l.duals.values l.routes.items;
  diver : IsDiverFor l.book l.table l.marks.facts l.diver;
}

-- a choice decides a pair, and no fact makes one undecided
abbrev pub decreases-loop-k : goal.decreases-loop-k
decreases-loop-k l = undecided l.book l.marks.facts
