-- A dive: from marks down to a plan or to a dead end, one fact after the other, and never back. Its duals stay as they are.
-- For src/descent.rt, src/dive_steps.rt and others.
use Rattle.std.specs.Prelude.{◌≡◌, ℕ, ℤ, ◌<◌, ⊤, List, [], ◌∷◌, ◌++◌, map, Contains}
use Rattle.tail_book.specs.Seen.{BookSeen}
use Rattle.tail_book.specs.TableSeen.{CostTableSeen}
use Rattle.tail_book.specs.Lookup.{aircraft}
use Rattle.tail_book.specs.CostTable.{plan_cost_in}
use Rattle.tail_book.specs.Plan.{route_of, IsLegalPlan}
use Rattle.branch_marks.specs.declared.fact.Fact.{Fact}
use Rattle.branch_marks.specs.declared.fact.Fact.TheVariants.{Bar, Must, Cut, Tie}
use Rattle.branch_marks.specs.DeadEnds.{IsHole, IsStuck}
use Rattle.branch_marks.specs.Following.{Follows, IsShut}
use Rattle.branch_marks.specs.Marks.{Fits}
use Rattle.propagator.specs.InTurn.{WaitsForFloors}
use Rattle.dive_heuristic.specs.LeastRoutes.{AreLeastRoutes, IsEachInOne}
use Rattle.dive_heuristic.specs.Choice.{IsChoice}
use Rattle.dive_heuristic.specs.declared.answer.DiveStep.{DiveStep}
use Rattle.dive_heuristic.specs.declared.answer.DiveStep.TheVariants.{Chosen, Forced}
use Rattle.dive_heuristic.specs.declared.answer.DeadEnd.{DeadEnd}
use Rattle.dive_heuristic.specs.declared.answer.DeadEnd.TheVariants.{Hole, Stuck}
use Rattle.dive_heuristic.specs.declared.answer.Dive.{Dive}
use Rattle.dive_heuristic.specs.declared.answer.Dive.TheVariants as dive

-- where a dive ends: at routes that are its plan, or dead
pub data DiveEnd : Type 0 where
  AtPlan : List (List ℕ) → DiveEnd
  AtDeadEnd : DeadEnd → DiveEnd

-- a forced step: a fact that is not among the marks and follows from them
pub record IsForced (book : BookSeen) (marks : List Fact) (fact : Fact) : Type 0 where
  pub new : ¬ Contains marks fact
  pub follows : Follows book marks fact

-- each activity is alive for somebody
abbrev pub HasNoHole : BookSeen → List Fact → Type 0
HasNoHole book marks = (a : ℕ) → ¬ IsHole book marks a

-- a chosen step: where nobody is missing and nobody is stuck, one route of least weight is taken for each aircraft; they are no
-- plan, and the first activity that they do not fly exactly once is given to the aircraft that is to fly it
abbrev pub IsChosen : CostTableSeen → BookSeen → List Fact → List ℤ → Fact → Type 0
IsChosen table book marks duals (Must k a) =
    HasNoHole book marks × ((routes : List (List ℕ)) × AreLeastRoutes table book marks duals routes × IsChoice book marks routes k a)
IsChosen table book marks duals (Bar k a) = ⊥
IsChosen table book marks duals (Cut a b) = ⊥
IsChosen table book marks duals (Tie a b) = ⊥

-- each step adds its fact to the marks: a forced one, or a chosen one where the marks are shut
abbrev pub AreSteps : CostTableSeen → BookSeen → List Fact → List ℤ → List DiveStep → Type 0
AreSteps table book marks duals [] = ⊤
AreSteps table book marks duals (Forced fact ∷ steps) = IsForced book marks fact × AreSteps table book (marks ++ fact ∷ []) duals steps
AreSteps table book marks duals (Chosen fact ∷ steps) =
    (IsShut book marks × IsChosen table book marks duals fact) × AreSteps table book (marks ++ fact ∷ []) duals steps

-- the fact of a step, and the marks after steps
abbrev pub fact_of : DiveStep → Fact
fact_of (Chosen fact) = fact
fact_of (Forced fact) = fact

abbrev pub marks_after : List Fact → List DiveStep → List Fact
marks_after marks steps = marks ++ map fact_of steps

-- the dead end is there: an activity is alive for nobody, or an aircraft has no legal route that fits
abbrev pub IsDeadEnd : BookSeen → List Fact → DeadEnd → Type 0
IsDeadEnd book marks (Hole a) = IsHole book marks a
IsDeadEnd book marks (Stuck k) = (k < aircraft book) × IsStuck book marks k

-- the end is true of the marks: a dead end; or each activity is alive for somebody, and the routes are of least weight, one for
-- each aircraft, with each activity in exactly one of them
abbrev pub IsDiveEnd : CostTableSeen → BookSeen → List Fact → List ℤ → DiveEnd → Type 0
IsDiveEnd table book marks duals (AtDeadEnd end) = IsDeadEnd book marks end
IsDiveEnd table book marks duals (AtPlan routes) = HasNoHole book marks × AreLeastRoutes table book marks duals routes × IsEachInOne book routes

-- a dive from the marks under the duals: its steps, after which the marks are shut, and an end that is true of them
pub record IsDive (table : CostTableSeen) (book : BookSeen) (marks : List Fact) (duals : List ℤ) (steps : List DiveStep) (end : DiveEnd) : Type 0 where
  pub in_turn : AreSteps table book marks duals steps
  pub shut : IsShut book (marks_after marks steps)
  pub ends : IsDiveEnd table book (marks_after marks steps) duals end

-- what a dive answers: the plan of such a dive; or its steps in order, and its dead end
abbrev pub IsDiveOf : CostTableSeen → BookSeen → List Fact → List ℤ → Dive → Type 0
IsDiveOf table book marks duals (dive.Plan plan cost) = (steps : List DiveStep) × IsDive table book marks duals steps (AtPlan plan)
IsDiveOf table book marks duals (dive.Dead steps end) = IsDive table book marks duals steps.items (AtDeadEnd end)

-- a plan is legal, each of its routes fits the marks, and this is its cost by the table
pub record IsFittingPlan (table : CostTableSeen) (book : BookSeen) (marks : List Fact) (plan : List (List ℕ)) (cost : ℕ) : Type 0 where
  pub legal : IsLegalPlan book plan
  pub fits : (k : ℕ) → k < aircraft book → Fits book marks k (route_of plan k)
  pub costs : cost ≡ plan_cost_in table book plan

-- so it is where the answer is a plan
abbrev pub IsFittingDive : CostTableSeen → BookSeen → List Fact → Dive → Type 0
IsFittingDive table book marks (dive.Plan plan cost) = IsFittingPlan table book marks plan cost
IsFittingDive table book marks (dive.Dead steps end) = ⊤

-- among the forced steps those that ask about all aircraft together come only where nothing follows by a floor
abbrev pub StepsWait : BookSeen → List Fact → List DiveStep → Type 0
StepsWait book marks [] = ⊤
StepsWait book marks (Forced fact ∷ steps) = WaitsForFloors book marks fact × StepsWait book (marks ++ fact ∷ []) steps
StepsWait book marks (Chosen fact ∷ steps) = StepsWait book (marks ++ fact ∷ []) steps

-- the order of the steps that are told
abbrev pub IsToldInOrder : BookSeen → List Fact → Dive → Type 0
IsToldInOrder book marks (dive.Plan plan cost) = ⊤
IsToldInOrder book marks (dive.Dead steps end) = StepsWait book marks steps.items
