-- Flights, and the lines that tell them, one more at a time.
--
-- A text so far with the lines of what is still to come is the whole text. With one flight's line, one aircraft's
-- flights or one line of the fleet added, the same holds of those behind it. A flight moves the state on by three
-- draws.
use Rattle.std.proofs.Common.{◌≡◌, ◌∙◌, ◌+◌, ◌++◌, ◌∷◌, ℕ, suc, List, map, append_assoc, [], refl, sym, ap}
use Rattle.std.proofs.lemmas.List.{append-nil}
use Rattle.seed_tables.specs.declared.flight.Flight.{Flight}
use Rattle.seed_tables.specs.Draws.{after, next}
use Rattle.seed_tables.specs.Flights.{airports_from, all_flights_from, behind, first_airport, flight_of, flights_from, flights_of}
use Rattle.seed_tables.specs.Rows.{aircraft_fields, flight_fields, line_of, lines_of}
use Rattle.seed_tables.specs.Trial.{fleet_rows}

-- the state behind the draws of one flight
pub after-flight : (m n x : ℕ) → m ≡ suc (suc (suc n)) → after m x ≡ after n (next (next (next x)))
unfolding after
after-flight m n x e = rw e refl

pub after-none : (x : ℕ) → after 0 x ≡ x
unfolding after
after-none x = refl

-- the first flight, and then the others
pub flights-more : (m n k j at since x : ℕ) → m ≡ suc n
    → flights_from m k j at since x ≡ flight_of k j at since x
    ∷ flights_from n k (j + 1) (flight_of k j at since x).to (flight_of k j at since x).end (next (next (next x)))
unfolding flights_from
flights-more m n k j at since x e = rw e refl

pub flights-none : (k j at since x : ℕ) → flights_from 0 k j at since x ≡ []
unfolding flights_from
flights-none k j at since x = refl

-- the lines of flights
abbrev pub told : List Flight → List ℕ
told flights = lines_of (map flight_fields flights)

-- a text with the first flight's line has the others still to come
pub one-told : (whole old new : List ℕ) (m n k j at since x : ℕ) → m ≡ suc n
    → whole ≡ old ++ told (flights_from m k j at since x)
    → new ≡ old ++ line_of (flight_fields (flight_of k j at since x))
    → whole ≡ new ++ told (flights_from n k (j + 1) (flight_of k j at since x).to (flight_of k j at since x).end (next (next (next x))))
one-told whole old new m n k j at since x e so_far added =
    so_far ∙ rw (flights-more m n k j at since x e, added) (sym (append_assoc old (line_of (flight_fields (flight_of k j at since x))) _))

lines-append : (xs ys : List (List (List ℕ))) → lines_of (xs ++ ys) ≡ lines_of xs ++ lines_of ys
lines-append [] ys = refl
lines-append (x ∷ xs) ys = rw (lines-append xs ys) (sym (append_assoc (line_of x) (lines_of xs) (lines_of ys)))

map-append : (xs ys : List Flight) → map flight_fields (xs ++ ys) ≡ map flight_fields xs ++ map flight_fields ys
map-append [] ys = refl
map-append (x ∷ xs) ys = ap (λ (t : List (List (List ℕ))). flight_fields x ∷ t) (map-append xs ys)

pub told-append : (xs ys : List Flight) → told (xs ++ ys) ≡ told xs ++ told ys
told-append xs ys = rw (map-append xs ys) (lines-append (map flight_fields xs) (map flight_fields ys))

-- a text with the flights of one aircraft has those of the others still to come
pub aircraft-told : (whole old new : List ℕ) (m n k x : ℕ) → m ≡ suc n
    → whole ≡ old ++ told (all_flights_from m k x)
    → new ≡ old ++ told (flights_of k x)
    → whole ≡ new ++ told (all_flights_from n (k + 1) (behind x))
unfolding all_flights_from
aircraft-told whole old new m n k x e so_far added =
    so_far ∙ rw (e, added) (rw (told-append (flights_of k x)) (sym (append_assoc old (told (flights_of k x)) _)))

-- and the same of the fleet's lines
pub fleet-told : (whole old new : List ℕ) (m n k x : ℕ) → m ≡ suc n
    → whole ≡ old ++ lines_of (fleet_rows k (airports_from m x))
    → new ≡ old ++ lines_of (fleet_rows k (airports_from 1 x))
    → whole ≡ new ++ lines_of (fleet_rows (k + 1) (airports_from n (behind x)))
unfolding airports_from
fleet-told whole old new m n k x e so_far added =
    so_far ∙ rw (e, added) (rw append-nil (sym (append_assoc old (line_of (aircraft_fields k (first_airport x))) _)))

-- the fleet's line of one aircraft
pub one-airport : (k x : ℕ) → lines_of (fleet_rows k (airports_from 1 x)) ≡ line_of (aircraft_fields k (first_airport x))
unfolding airports_from
one-airport k x = append-nil (line_of (aircraft_fields k (first_airport x)))

pub all-none : (k x : ℕ) → all_flights_from 0 k x ≡ []
unfolding all_flights_from
all-none k x = refl

pub airports-none : (x : ℕ) → airports_from 0 x ≡ []
unfolding airports_from
airports-none x = refl
