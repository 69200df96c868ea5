-- The legs of a kept plan: their numbers are of the book, and those of one aircraft, in their order, are its route.
-- For src/kept_plan.rt, src/auditing.rt and others.
use Rattle.std.specs.Prelude.{ℕ, List, map, nat_eq, ◌<◌}
use Rattle.std.specs.List.{filter}
use Rattle.tail_book.specs.Seen.{BookSeen}
use Rattle.tail_book.specs.Lookup.{activities, aircraft}
use Rattle.tail_book.specs.Place.{IsPlaceOf}
use Rattle.plan_audit.specs.declared.leg.Leg.{Leg}

-- the route of aircraft k among legs: the activities of its legs, in order
abbrev pub route_in : List Leg → ℕ → List ℕ
route_in legs k = map (λ leg. leg.activity) (filter (λ leg. nat_eq leg.tail k) legs)

-- a leg's numbers are of the book
pub record IsLegOf (book : BookSeen) (leg : Leg) : Type 0 where
  pub tail : leg.tail < aircraft book
  pub from : IsPlaceOf book leg.from
  pub activity : leg.activity < activities book
