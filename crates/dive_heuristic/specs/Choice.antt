-- What a dive chooses where the least routes are no plan: an activity that is not in exactly one, and who is to fly it.
-- For src/carrier.rt, src/descent.rt and others.
use Rattle.std.specs.Prelude.{◌≡◌, ℕ, ◌<◌, ◌⊎◌, List, true, false}
use Rattle.tail_book.specs.Seen.{BookSeen}
use Rattle.tail_book.specs.Lookup.{activities, aircraft}
use Rattle.tail_book.specs.Numbers.{contains}
use Rattle.tail_book.specs.Plan.{route_of}
use Rattle.branch_marks.specs.declared.fact.Fact.{Fact}
use Rattle.branch_marks.specs.Marks.{IsAlive}
use Rattle.dive_heuristic.specs.LeastRoutes.{IsInOne}

-- the least aircraft of the book of which this is true
pub record IsLeastAircraft (book : BookSeen) (true_of : ℕ → Type 0) (k : ℕ) : Type 0 where
  pub of_book : k < aircraft book
  pub here : true_of k
  pub before : (j : ℕ) → j < k → ¬ true_of j

-- the route of aircraft k has activity a
abbrev pub HasIt : List (List ℕ) → ℕ → ℕ → Type 0
HasIt routes a k = contains (route_of routes k) a ≡ true

-- no route has it
abbrev pub NoneHasIt : List (List ℕ) → ℕ → Type 0
NoneHasIt routes a = (k : ℕ) → contains (route_of routes k) a ≡ false

-- who is to fly activity a: the least aircraft whose route has it or, where no route has it, the least that it is alive for
abbrev pub IsCarrierOf : BookSeen → List Fact → List (List ℕ) → ℕ → ℕ → Type 0
IsCarrierOf book marks routes a k =
    IsLeastAircraft book (HasIt routes a) k ⊎ (NoneHasIt routes a × IsLeastAircraft book (λ j. IsAlive book marks j a) k)

-- activity a is the least that is not in exactly one route, and aircraft k is to fly it
pub record IsChoice (book : BookSeen) (marks : List Fact) (routes : List (List ℕ)) (k a : ℕ) : Type 0 where
  pub of_book : a < activities book
  pub here : ¬ IsInOne routes a
  pub before : (b : ℕ) → b < a → IsInOne routes b
  pub carrier : IsCarrierOf book marks routes a k
