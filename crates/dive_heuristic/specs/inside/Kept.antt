-- Routes that are kept while marks grow: no legal route that fits comes to weigh less, so that one which still fits is still of
-- least weight. For src/least_routes.rt, src/descent.rt and others.
use Rattle.std.specs.Prelude.{◌≡◌, ℕ, ℤ, ◌<◌, ◌++◌, List, length}
use Rattle.tail_book.specs.Seen.{BookSeen}
use Rattle.tail_book.specs.TableSeen.{CostTableSeen}
use Rattle.tail_book.specs.Lookup.{aircraft}
use Rattle.tail_book.specs.Plan.{route_of}
use Rattle.tail_book.specs.Route.{IsLegalRoute}
use Rattle.branch_marks.specs.declared.fact.Fact.{Fact}
use Rattle.branch_marks.specs.Marks.{Fits}
use Rattle.branch_marks.specs.Weights.{weight, WeighsAtLeast}
use Rattle.dive_heuristic.specs.declared.least_routes.FirstRoutes.{FirstRoutes}
use Rattle.dive_heuristic.specs.declared.least_routes.FirstRoutes.TheVariants as found
use Rattle.dive_heuristic.specs.LeastRoutes.{IsLeastRoute, AreLeastRoutes}
use Rattle.dive_heuristic.specs.Dive.{IsDeadEnd}
use Rattle.dive_heuristic.specs.inside.DiveSteps.{StandsAt}

-- the route is legal for aircraft k, and no legal route of k that fits weighs less; whether it fits itself is not said
pub record IsLowRoute (table : CostTableSeen) (book : BookSeen) (marks : List Fact) (k : ℕ) (duals : List ℤ) (route : List ℕ) : Type 0 where
  pub legal : IsLegalRoute book k route
  pub least : WeighsAtLeast table book marks k duals (weight table book k duals route)

-- one such route for each aircraft
pub record AreLowRoutes (table : CostTableSeen) (book : BookSeen) (marks : List Fact) (duals : List ℤ) (routes : List (List ℕ)) : Type 0 where
  pub one_each : length routes ≡ aircraft book
  pub each : (k : ℕ) → k < aircraft book → IsLowRoute table book marks k duals (route_of routes k)

-- what fits under more marks fits under fewer
abbrev pub FitsWithFewer : Type 0
FitsWithFewer = (book : BookSeen) (marks more : List Fact) (k : ℕ) (route : List ℕ) → Fits book (marks ++ more) k route → Fits book marks k route

-- so a route of least weight that still fits under more marks is still of least weight
abbrev pub LeastRoutesStay : Type 0
LeastRoutesStay = (table : CostTableSeen) (book : BookSeen) (marks more : List Fact) (k : ℕ) (duals : List ℤ) (route : List ℕ)
    → IsLeastRoute table book marks k duals route → Fits book (marks ++ more) k route → IsLeastRoute table book (marks ++ more) k duals route

-- the first routes are of least weight, or there is a dead end
abbrev pub AreFirstRoutes : CostTableSeen → BookSeen → List Fact → List ℤ → FirstRoutes → Type 0
AreFirstRoutes table book marks duals (found.Routes routes) = AreLeastRoutes table book marks duals routes.items
AreFirstRoutes table book marks duals (found.Dead end) = IsDeadEnd book marks end

-- where the first routes are found a dive stands before its first choice
abbrev pub HasBegun : CostTableSeen → BookSeen → List Fact → List ℤ → FirstRoutes → Type 0
HasBegun table book marks duals (found.Routes routes) = StandsAt table book marks duals routes.items
HasBegun table book marks duals (found.Dead end) = IsDeadEnd book marks end
