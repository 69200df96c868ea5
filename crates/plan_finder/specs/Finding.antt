-- What a plan that was looked for under marks keeps: the rules and the marks, at the cost that is told.
-- For src/finder.rt, src/judging.rt and others.
use Rattle.std.specs.Prelude.{ℕ, ◌<◌, List}
use Rattle.tail_book.specs.Seen.{BookSeen}
use Rattle.tail_book.specs.Lookup.{aircraft}
use Rattle.tail_book.specs.Plan.{route_of}
use Rattle.tail_book.specs.TableSeen.{CostTableSeen}
use Rattle.tail_book.specs.Truth.{IsPlanIn}
use Rattle.branch_marks.specs.declared.fact.Fact.{Fact}
use Rattle.branch_marks.specs.Marks.{Fits}

-- the plan is legal and has this cost, and the route of each aircraft fits the marks
pub record IsFittingPlan (table : CostTableSeen) (book : BookSeen) (marks : List Fact) (cost : ℕ) (plan : List (List ℕ)) : Type 0 where
  pub legal : IsPlanIn table book cost plan
  pub fits : (k : ℕ) → k < aircraft book → Fits book marks k (route_of plan k)
