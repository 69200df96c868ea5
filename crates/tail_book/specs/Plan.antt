-- A legal plan: the set partitioning form of tail assignment.
use Rattle.std.specs.Prelude.{◌≡◌, ℕ, ◌<◌, List, [], length, count_by, nat_eq, slice_index_or}
use Rattle.std.specs.List.{flat_map}
use Rattle.tail_book.specs.Seen.{BookSeen}
use Rattle.tail_book.specs.Lookup.{activities, aircraft}
use Rattle.tail_book.specs.Route.{IsLegalRoute}

-- how often an activity stands in the routes, all together
abbrev pub times_flown : List (List ℕ) → ℕ → ℕ
times_flown plan a = count_by (nat_eq a) (flat_map (λ route. route) plan)

-- the route of aircraft k, empty past the end
abbrev pub route_of : List (List ℕ) → ℕ → List ℕ
route_of plan k = slice_index_or plan k []

-- a legal route for each aircraft, in the book's order, and each activity flown exactly once in all
pub record IsLegalPlan (book : BookSeen) (plan : List (List ℕ)) : Type 0 where
  pub one_each : length plan ≡ aircraft book
  pub routes : (k : ℕ) → k < aircraft book → IsLegalRoute book k (route_of plan k)
  pub partition : (a : ℕ) → a < activities book → times_flown plan a ≡ 1
