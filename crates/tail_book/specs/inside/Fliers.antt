-- A plan as an assignment: for each activity the aircraft that flies it.
use Rattle.std.specs.Prelude.{ℕ, ◌<◌, ◌≡◌, true, List, All, length}
use Rattle.tail_book.specs.Seen.{BookSeen}
use Rattle.tail_book.specs.declared.place.Place.TheVariants.{Carry}
use Rattle.tail_book.specs.Numbers.{contains}
use Rattle.tail_book.specs.Lookup.{activities, aircraft}
use Rattle.tail_book.specs.Route.{IsLegalRoute}
use Rattle.tail_book.specs.Plan.{route_of, IsLegalPlan}
use Rattle.tail_book.specs.inside.Rising.{IsRisingFrom}
use Rattle.tail_book.specs.inside.Sound.{IsBook}
use Rattle.tail_book.specs.inside.Sums.{IsPartition}
use Rattle.tail_book.specs.inside.Partition.{all_flown}
use Rattle.tail_book.specs.Fliers.{flier, fliers_of, route_by, plan_by}

-- a route by fliers rises, and has no more than their activities
abbrev pub RoutesByFliersRise : Type 0
RoutesByFliersRise = (fliers : List ℕ) (k : ℕ) → IsRisingFrom (length fliers) Carry (route_by fliers k)

-- where each flier is one of the m aircraft, their routes have each activity once
abbrev pub PlansByFliersPartition : Type 0
PlansByFliersPartition = (fliers : List ℕ) (m : ℕ) → All (λ k. k < m) fliers → IsPartition (length fliers) (all_flown (plan_by fliers m))

-- and their fliers are the same again
abbrev pub FliersOfTheirPlan : Type 0
FliersOfTheirPlan = (fliers : List ℕ) (m : ℕ) → All (λ k. k < m) fliers → fliers_of (plan_by fliers m) (length fliers) ≡ fliers

-- where they name an aircraft of the book for each of its activities, and each route is legal, so is the plan
abbrev pub PlansByFliersAreLegal : Type 0
PlansByFliersAreLegal = (book : BookSeen) (fliers : List ℕ) → length fliers ≡ activities book → All (λ k. k < aircraft book) fliers
    → ((k : ℕ) → k < aircraft book → IsLegalRoute book k (route_by fliers k)) → IsLegalPlan book (plan_by fliers (aircraft book))

-- in a legal plan the flier of an activity of the book is an aircraft of the book whose route has it
abbrev pub FliersFly : Type 0
FliersFly = (book : BookSeen) (plan : List (List ℕ)) → IsLegalPlan book plan → (a : ℕ) → a < activities book
    → (flier plan a < aircraft book) × (contains (route_of plan (flier plan a)) a ≡ true)

-- and the fliers give the plan again
abbrev pub PlansOfTheirFliers : Type 0
PlansOfTheirFliers = (book : BookSeen) → IsBook book → (plan : List (List ℕ)) → IsLegalPlan book plan
    → plan_by (fliers_of plan (activities book)) (aircraft book) ≡ plan
