-- A legal plan flies exactly the book: what its routes have, all together. For src/laws/sums.rt.
use Rattle.std.specs.Prelude.{ℕ, ℤ, ◌<◌, ◌≡◌, List, All, length, map}
use Rattle.std.specs.List.{flat_map}
use Rattle.tail_book.specs.Seen.{BookSeen}
use Rattle.tail_book.specs.Lookup.{activities}
use Rattle.tail_book.specs.Plan.{IsLegalPlan}
use Rattle.tail_book.specs.Sums.{total, sum_below}
use Rattle.tail_book.specs.inside.Sums.{IsPartition}

-- the activities of all routes, one route after the other
abbrev pub all_flown : List (List ℕ) → List ℕ
all_flown plan = flat_map (λ route. route) plan

-- the activities of a legal plan's routes are those of the book, each once
abbrev pub LegalPlansPartition : Type 0
LegalPlansPartition = (book : BookSeen) (plan : List (List ℕ)) → IsLegalPlan book plan → IsPartition (activities book) (all_flown plan)

-- so each activity of each of its routes is of the book
abbrev pub LegalPlansFlyTheBook : Type 0
LegalPlansFlyTheBook = (book : BookSeen) (plan : List (List ℕ)) → IsLegalPlan book plan → All (All (λ a. a < activities book)) plan

-- and they are as many as the book has
abbrev pub LegalPlansFlyAll : Type 0
LegalPlansFlyAll = (book : BookSeen) (plan : List (List ℕ)) → IsLegalPlan book plan → length (all_flown plan) ≡ activities book

-- a sum over the routes, route by route, is the sum over their activities
abbrev pub TotalOfRoutes : Type 0
TotalOfRoutes = (f : ℕ → ℤ) (plan : List (List ℕ)) → total (map (λ route. total (map f route)) plan) ≡ total (map f (all_flown plan))

-- and in a legal plan that is the sum over the book
abbrev pub TotalOfLegalPlan : Type 0
TotalOfLegalPlan = (book : BookSeen) (f : ℕ → ℤ) (plan : List (List ℕ)) → IsLegalPlan book plan
    → total (map (λ route. total (map f route)) plan) ≡ sum_below (activities book) f
