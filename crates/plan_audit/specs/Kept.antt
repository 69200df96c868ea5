-- The kept plan, and its legs: the same activities as a route for each aircraft, and in reading order, each with the
-- place before it. For src/auditing.rt, src/kept_plan.rt and others.
use Rattle.std.specs.Prelude.{ℕ, List, [], ◌∷◌, map, if◌then◌else◌, nat_eq}
use Rattle.std.specs.List.{range_with_len}
use Rattle.tail_book.specs.Seen.{BookSeen, RawPlanSeen}
use Rattle.tail_book.specs.Lookup.{aircraft}
use Rattle.tail_book.specs.declared.place.Place.{Place}
use Rattle.tail_book.specs.declared.place.Place.TheVariants.{Carry, After}
use Rattle.plan_audit.specs.declared.leg.Leg.{Leg}
use Rattle.plan_audit.specs.declared.met.Met.{Met}
use Rattle.plan_audit.specs.declared.met.Met.TheVariants.{Unknown, Twice, Tail, Activity}
use Rattle.plan_audit.specs.Met.{names_met}

-- the activities before the next aircraft
abbrev pub next_route : List Met → List ℕ
next_route [] = []
next_route (Unknown name ∷ met) = next_route met
next_route (Twice name ∷ met) = next_route met
next_route (Tail k ∷ met) = []
next_route (Activity a ∷ met) = a ∷ next_route met

-- the route of aircraft k: the activities behind it, and none where it has no line
abbrev pub route_met : List Met → ℕ → List ℕ
route_met [] k = []
route_met (Unknown name ∷ met) k = route_met met k
route_met (Twice name ∷ met) k = route_met met k
route_met (Tail j ∷ met) k = if nat_eq k j then next_route met else route_met met k
route_met (Activity a ∷ met) k = route_met met k

-- what is kept of a plan: of each aircraft of the book its first line, and there each id of the book that is met for the
-- first time
abbrev pub kept : BookSeen → RawPlanSeen → List (List ℕ)
kept book raw = map (route_met (names_met book raw)) (range_with_len 0 (aircraft book))

-- the legs of aircraft k from a place on, and those of the aircraft behind it
abbrev pub legs_from : ℕ → Place → List Met → List Leg
legs_from k x [] = []
legs_from k x (Unknown name ∷ met) = legs_from k x met
legs_from k x (Twice name ∷ met) = legs_from k x met
legs_from k x (Tail j ∷ met) = legs_from j Carry met
legs_from k x (Activity b ∷ met) = record { tail = k; from = x; activity = b } ∷ legs_from k (After b) met

-- the legs of the kept plan in reading order; before the first aircraft there is none
abbrev pub legs_met : List Met → List Leg
legs_met met = legs_from 0 Carry met
