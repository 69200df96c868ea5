-- What is left out where each aircraft flies a legal route, and no two fly the same activity. For src/fullest.rt and src/left_out.rt.
use Rattle.std.specs.Prelude.{ℕ, ◌<◌, ◌≤◌, ◌≡◌, ◌==◌, List, length}
use Rattle.std.specs.List.{filter, range_with_len}
use Rattle.tail_book.specs.Seen.{BookSeen}
use Rattle.tail_book.specs.Lookup.{activities, aircraft}
use Rattle.tail_book.specs.Plan.{route_of, times_flown}
use Rattle.tail_book.specs.Route.{IsLegalRoute}

-- a legal route for each aircraft, in the book's order, and no activity flown twice in all
pub record AreLegalApart (book : BookSeen) (routes : List (List ℕ)) : Type 0 where
  pub one_each : length routes ≡ aircraft book
  pub legal : (k : ℕ) → k < aircraft book → IsLegalRoute book k (route_of routes k)
  pub none_twice : (a : ℕ) → a < activities book → times_flown routes a ≤ 1

-- the activities of the book that no route has, by number
abbrev pub flown_by_none : BookSeen → List (List ℕ) → List ℕ
flown_by_none book routes = filter (λ a. times_flown routes a == 0) (range_with_len 0 (activities book))

-- there are such routes, and these are exactly the activities that none of them has
abbrev pub IsLeftOut : BookSeen → List ℕ → Type 0
IsLeftOut book list = (routes : List (List ℕ)) × AreLegalApart book routes × (list ≡ flown_by_none book routes)
