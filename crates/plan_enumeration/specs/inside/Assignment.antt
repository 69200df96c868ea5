-- Who flies what: an assignment names for each activity, in order, the aircraft that flies it. For src/enumerate.rt.
use Rattle.std.specs.Prelude.{ℕ, ◌≡◌, ◌<◌, List, length, All}
use Rattle.tail_book.specs.Seen.{BookSeen}
use Rattle.tail_book.specs.Lookup.{activities, aircraft}
use Rattle.tail_book.specs.Route.{IsLegalRoute}
use Rattle.tail_book.specs.Cost.{plan_cost}
use Rattle.tail_book.specs.Fliers.{plan_by, route_by}

-- each activity that is assigned has an aircraft, and the routes so far are legal
pub record IsLegalSoFar (book : BookSeen) (who : List ℕ) : Type 0 where
  pub fliers : All (λ k. k < aircraft book) who
  pub routes : (k : ℕ) → k < aircraft book → IsLegalRoute book k (route_by who k)

-- each activity of the book is assigned, and all routes are legal
pub record IsLegalAssignment (book : BookSeen) (who : List ℕ) : Type 0 where
  pub whole : length who ≡ activities book
  pub legal : IsLegalSoFar book who

-- what the plan of an assignment costs
abbrev pub assignment_cost : BookSeen → List ℕ → ℕ
assignment_cost book who = plan_cost book (plan_by who (aircraft book))
