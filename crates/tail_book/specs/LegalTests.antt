-- The facts of legality as tests that compute.
-- For plan_audit/src/legal_plan.rt, turn_rules/src/permission_table.rt and others.
use Rattle.std.specs.Prelude.{ℕ, zero, suc, ℤ, ◌==◌, List, [], ◌∷◌, Bool, true, false, ◌&&◌, nat_lt, not, length}
use Rattle.tail_book.specs.Seen.{CounterSeen, BookSeen}
use Rattle.tail_book.specs.declared.place.Place.{Place}
use Rattle.tail_book.specs.declared.place.Place.TheVariants.{Carry, After}
use Rattle.tail_book.specs.Numbers.{int_le}
use Rattle.tail_book.specs.Lookup.{activities, aircraft, carry_of}
use Rattle.tail_book.specs.Curfew.{is_curfewed}
use Rattle.tail_book.specs.Allowed.{is_permitted}
use Rattle.tail_book.specs.Link.{is_connected}
use Rattle.tail_book.specs.Counters.{step}
use Rattle.tail_book.specs.Plan.{times_flown, route_of}

-- the aircraft and the activity are of the book, and the one may fly the other
unfoldable pub is_allowed : BookSeen → ℕ → ℕ → Bool
is_allowed book k a =
    nat_lt k (aircraft book) && (nat_lt a (activities book) && (is_permitted book k a && not (is_curfewed book k a)))

-- the aircraft may be at the place
abbrev pub is_allowed_at : BookSeen → ℕ → Place → Bool
is_allowed_at book k Carry = true
is_allowed_at book k (After x) = is_allowed book k x

-- the activity may come directly after the place
unfoldable pub is_link : BookSeen → ℕ → Place → ℕ → Bool
is_link book k x b = is_connected book k x b && (is_allowed_at book k x && is_allowed book k b)

-- there is a value for each counter, and each is within its limit
abbrev pub within_limits : List CounterSeen → List ℤ → Bool
within_limits [] [] = true
within_limits [] (value ∷ values) = false
within_limits (counter ∷ counters) [] = false
within_limits (counter ∷ counters) (value ∷ values) = int_le value counter.limit && within_limits counters values

-- the rest of a route is legal from a place on, with these values there
abbrev pub is_legal_from : BookSeen → ℕ → Place → List ℤ → List ℕ → Bool
is_legal_from book k x values [] = true
is_legal_from book k x values (b ∷ rest) =
    nat_lt b (activities book)
    && (is_link book k x b && (within_limits book.rules.counters (step book k x b values) && is_legal_from book k (After b) (step book k x b values) rest))

-- the route is legal for the aircraft
abbrev pub is_legal_route : BookSeen → ℕ → List ℕ → Bool
is_legal_route book k route = is_legal_from book k Carry (carry_of book k) route

-- the routes of the aircraft below k are legal
abbrev pub are_legal_below : BookSeen → List (List ℕ) → ℕ → Bool
are_legal_below book plan zero = true
are_legal_below book plan (suc k) = is_legal_route book k (route_of plan k) && are_legal_below book plan k

-- each activity below a is flown exactly once
abbrev pub are_flown_once_below : List (List ℕ) → ℕ → Bool
are_flown_once_below plan zero = true
are_flown_once_below plan (suc a) = times_flown plan a == 1 && are_flown_once_below plan a

-- there is a legal route for each aircraft, and each activity is flown exactly once
abbrev pub is_legal_plan : BookSeen → List (List ℕ) → Bool
is_legal_plan book plan =
    length plan == aircraft book && (are_legal_below book plan (aircraft book) && are_flown_once_below plan (activities book))
