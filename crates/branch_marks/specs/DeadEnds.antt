-- When marks leave no plan: nobody may fly some activity, or some aircraft has no route. For src/laws/branching.rt.
use Rattle.std.specs.Prelude.{ℕ, ◌<◌, List}
use Rattle.tail_book.specs.Seen.{BookSeen}
use Rattle.tail_book.specs.Lookup.{activities, aircraft}
use Rattle.tail_book.specs.Plan.{IsLegalPlan}
use Rattle.tail_book.specs.Route.{IsLegalRoute}
use Rattle.tail_book.specs.inside.Sound.{IsBook}
use Rattle.branch_marks.specs.declared.fact.Fact.{Fact}
use Rattle.branch_marks.specs.Facts.{HoldAll}
use Rattle.branch_marks.specs.Marks.{IsAlive, Fits}

-- activity a is a hole: it is of the book, and alive for nobody
pub record IsHole (book : BookSeen) (marks : List Fact) (a : ℕ) : Type 0 where
  pub of_book : a < activities book
  pub nobody : (k : ℕ) → k < aircraft book → ¬ IsAlive book marks k a

-- aircraft k is stuck: no legal route of it fits
abbrev pub IsStuck : BookSeen → List Fact → ℕ → Type 0
IsStuck book marks k = (route : List ℕ) → IsLegalRoute book k route → ¬ Fits book marks k route

-- there is no legal plan of which the marks hold
abbrev pub HasNoMarkedPlan : BookSeen → List Fact → Type 0
HasNoMarkedPlan book marks = (plan : List (List ℕ)) → IsLegalPlan book plan → ¬ HoldAll marks plan

-- so it is where there is a hole
abbrev pub HolesLeaveNoPlan : Type 0
HolesLeaveNoPlan = (book : BookSeen) → IsBook book → (marks : List Fact) (a : ℕ) → IsHole book marks a → HasNoMarkedPlan book marks

-- and where an aircraft of the book is stuck
abbrev pub StuckLeavesNoPlan : Type 0
StuckLeavesNoPlan = (book : BookSeen) → IsBook book → (marks : List Fact) (k : ℕ) → k < aircraft book → IsStuck book marks k → HasNoMarkedPlan book marks
