-- Routes of least weight under duals, one for each aircraft, and whether each activity is in exactly one of them.
use Rattle.std.specs.Prelude.{◌≡◌, ℕ, ℤ, ◌<◌, List, length}
use Rattle.tail_book.specs.Seen.{BookSeen}
use Rattle.tail_book.specs.TableSeen.{CostTableSeen}
use Rattle.tail_book.specs.Lookup.{activities, aircraft}
use Rattle.tail_book.specs.Plan.{times_flown, route_of}
use Rattle.tail_book.specs.Route.{IsLegalRoute}
use Rattle.branch_marks.specs.declared.fact.Fact.{Fact}
use Rattle.branch_marks.specs.Marks.{Fits}
use Rattle.branch_marks.specs.Weights.{weight, WeighsAtLeast}

-- a route of least weight: it is legal for aircraft k and fits the marks, and no legal route of k that fits weighs less
pub record IsLeastRoute (table : CostTableSeen) (book : BookSeen) (marks : List Fact) (k : ℕ) (duals : List ℤ) (route : List ℕ) : Type 0 where
  pub legal : IsLegalRoute book k route
  pub fits : Fits book marks k route
  pub least : WeighsAtLeast table book marks k duals (weight table book k duals route)

-- one such route for each aircraft; so none of them is stuck
pub record AreLeastRoutes (table : CostTableSeen) (book : BookSeen) (marks : List Fact) (duals : List ℤ) (routes : List (List ℕ)) : Type 0 where
  pub one_each : length routes ≡ aircraft book
  pub each : (k : ℕ) → k < aircraft book → IsLeastRoute table book marks k duals (route_of routes k)

-- a route for each aircraft that is legal and fits the marks
pub record AreRoutesOfFleet (book : BookSeen) (marks : List Fact) (routes : List (List ℕ)) : Type 0 where
  pub one_each : length routes ≡ aircraft book
  pub legal : (k : ℕ) → k < aircraft book → IsLegalRoute book k (route_of routes k)
  pub fits : (k : ℕ) → k < aircraft book → Fits book marks k (route_of routes k)

-- least routes are such
abbrev pub LeastRoutesFit : Type 0
LeastRoutesFit = (table : CostTableSeen) (book : BookSeen) (marks : List Fact) (duals : List ℤ) (routes : List (List ℕ))
    → AreLeastRoutes table book marks duals routes → AreRoutesOfFleet book marks routes

-- activity a is in exactly one of the routes. A legal route has no activity twice
abbrev pub IsInOne : List (List ℕ) → ℕ → Type 0
IsInOne routes a = times_flown routes a ≡ 1

-- and so is each activity of the book
abbrev pub IsEachInOne : BookSeen → List (List ℕ) → Type 0
IsEachInOne book routes = (a : ℕ) → a < activities book → IsInOne routes a
