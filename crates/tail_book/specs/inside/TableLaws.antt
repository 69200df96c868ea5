-- What the book's own costs have to do with the book, and what a legal plan costs by a table at most. For src/laws.rt.
use Rattle.std.specs.Prelude.{ℕ, ◌<◌, ◌≤◌, ◌≡◌, ◌↔◌, List, All, length}
use Rattle.tail_book.specs.Seen.{BookSeen}
use Rattle.tail_book.specs.TableSeen.{CostTableSeen}
use Rattle.tail_book.specs.declared.place.Place.{Place}
use Rattle.tail_book.specs.Lookup.{activities, aircraft}
use Rattle.tail_book.specs.Cost.{activity_cost, connection_cost, cost_from, plan_cost}
use Rattle.tail_book.specs.CostTable.{IsCostTable, IsTableFor, activity_cost_in, connection_cost_in, cost_from_in, plan_cost_in, greatest_cost_in, costs_of}
use Rattle.tail_book.specs.Plan.{IsLegalPlan}
use Rattle.tail_book.specs.Truth.{IsTrueClaim, IsTrueClaimIn, IsTrueOutcomeIn, IsTrueOutcome}
use Rattle.tail_book.specs.declared.claim.Claim.{Claim}
use Rattle.tail_book.specs.declared.outcome.Outcome.{Outcome}
use Rattle.tail_book.specs.inside.Sound.{IsBook}

-- the book's own costs are a table for the book
abbrev pub OwnCostsAreForBook : Type 0
OwnCostsAreForBook = (book : BookSeen) → IsTableFor book (costs_of book)

-- in them each activity costs each aircraft what the book says
abbrev pub OwnCostsOfActivities : Type 0
OwnCostsOfActivities = (book : BookSeen) (k a : ℕ) → k < aircraft book → a < activities book → activity_cost_in (costs_of book) k a ≡ activity_cost book k a

-- and so does each connection
abbrev pub OwnCostsOfConnections : Type 0
OwnCostsOfConnections = (book : BookSeen) (k : ℕ) (x : Place) (b : ℕ) → connection_cost_in (costs_of book) book k x b ≡ connection_cost book k x b

-- and so does the rest of a route, from any place on, where its activities are of the book
abbrev pub OwnCostsOfRoutes : Type 0
OwnCostsOfRoutes = (book : BookSeen) (k : ℕ) (x : Place) (route : List ℕ) → k < aircraft book → All (λ a. a < activities book) route
    → cost_from_in (costs_of book) book k x route ≡ cost_from book k x route

-- and so does a plan with a route for each aircraft, where its activities are of the book
abbrev pub OwnCostsOfPlans : Type 0
OwnCostsOfPlans = (book : BookSeen) (plan : List (List ℕ)) → length plan ≡ aircraft book → All (All (λ a. a < activities book)) plan
    → plan_cost_in (costs_of book) book plan ≡ plan_cost book plan

-- and so does every legal plan
abbrev pub OwnCostsOfLegalPlans : Type 0
OwnCostsOfLegalPlans = (book : BookSeen) (plan : List (List ℕ)) → IsLegalPlan book plan → plan_cost_in (costs_of book) book plan ≡ plan_cost book plan

-- a claim, and an answer, is true by the book's own costs exactly where it is true of the book
abbrev pub OwnCostsKeepClaims : Type 0
OwnCostsKeepClaims = (book : BookSeen) (claim : Claim) → IsTrueClaimIn (costs_of book) book claim ↔ IsTrueClaim book claim

abbrev pub OwnCostsKeepOutcomes : Type 0
OwnCostsKeepOutcomes = (book : BookSeen) (answer : Outcome) → IsTrueOutcomeIn (costs_of book) book answer ↔ IsTrueOutcome book answer

-- by any table for the book a legal plan costs at most what each activity, with a connection, costs at most
abbrev pub LegalPlansCostAtMostIn : Type 0
LegalPlansCostAtMostIn = (book : BookSeen) (table : CostTableSeen) → IsBook book → IsCostTable table → IsTableFor book table
    → (plan : List (List ℕ)) → IsLegalPlan book plan → plan_cost_in table book plan ≤ greatest_cost_in table
