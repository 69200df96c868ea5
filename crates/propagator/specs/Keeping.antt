-- What a propagator keeps between two calls, and for which marks that is right.
-- For src/kept_rows.rt, src/fixpoint.rt and others.
use Rattle.std.specs.Prelude.{ℕ, ◌≤◌, ⊤, List, ◌++◌, Option, None, Some, length, take}
use Rattle.tail_book.specs.Seen.{BookSeen}
use Rattle.maint_counters.specs.inside.StepTable.{IsStepTableOf}
use Rattle.branch_marks.specs.declared.fact.Fact.{Fact}
use Rattle.branch_marks.specs.Following.{IsShut}
use Rattle.propagator.specs.KeptSeen.{PropagatorSeen}
use Rattle.floor_rows.specs.inside.FloorRow.{FloorRowSeen}
use Rattle.propagator.specs.inside.Rows.{AreRowsOf}
use Rattle.propagator.specs.inside.Cutting.{AreFloorsOf}
use Rattle.propagator.specs.inside.Work.{IsWorkOf}

-- the tables of the propagator have the numbers of the book
pub record IsMadeFor (book : BookSeen) (kept : PropagatorSeen) : Type 0 where
  pub steps : IsStepTableOf book kept.steps
  pub rows : AreRowsOf book kept.rows
  pub work : IsWorkOf book kept.work

-- the first n facts are shut, and the rows have the floors that they leave
pub record KeepsFront (book : BookSeen) (facts : List Fact) (rows : List FloorRowSeen) (n : ℕ) : Type 0 where
  pub few : n ≤ length facts
  pub shut : IsShut book (take n facts)
  pub floors : AreFloorsOf book (take n facts) rows

-- what was seen is a front of the facts, which the rows are right for; where nothing was seen, any facts will do
abbrev pub KeepsSeen : BookSeen → List Fact → List FloorRowSeen → Option ℕ → Type 0
KeepsSeen book facts rows None = ⊤
KeepsSeen book facts rows (Some n) = KeepsFront book facts rows n

-- the propagator is of the book, and what it keeps is right for a front of these facts
pub record IsKeptFor (book : BookSeen) (facts : List Fact) (kept : PropagatorSeen) : Type 0 where
  pub made : IsMadeFor book kept
  pub right : KeepsSeen book facts kept.rows kept.seen

-- so it is for the facts with more behind them
abbrev pub KeptForMore : Type 0
KeptForMore = (book : BookSeen) (facts more : List Fact) (kept : PropagatorSeen) → IsKeptFor book facts kept → IsKeptFor book (facts ++ more) kept
