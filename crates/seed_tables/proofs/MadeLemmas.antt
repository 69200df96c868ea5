-- The flights of the making: their airports, their moments, how many they are, and their ids.
--
-- A stop takes at most 134 minutes, or 734 before flights 5 and 10, and a flight at most 179: so the last one lands
-- within the first five days.
use Rattle.std.proofs.Common.{◌≡◌, ◌∙◌, ◌+◌, ◌*◌, ◌<◌, ◌≤◌, ◌==◌, ◌≢◌, ℕ, zero, suc, Bool, List, ◌∷◌, map, length, All, arith, length-append, refl, ap}
use Rattle.std.proofs.lemmas.Bool.Decides.{nat_tests}
use Rattle.std.proofs.lemmas.List.{map-append}
use Rattle.std.proofs.lemmas.List.Elements.{All-append, All-cons, All-nil}
use Rattle.seed_tables.specs.Draws.{drawn, next}
use Rattle.seed_tables.specs.Flights.{airports_from, all_flights_from, behind, first_airport, flight_of, flights_from, flights_of, stop_before, time_aloft}
use Rattle.seed_tables.specs.inside.Ids.{all_ids_from, id_of, ids_from}
use Rattle.seed_tables.proofs.RouteLemmas.{drawn-below}
use Rattle.seed_tables.proofs.ReadLemmas.{IsMade}

record IsStop (j g : ℕ) : Type 0 where
  least : 45 ≤ g
  most : g ≤ 734
  short : j ≢ 5 → j ≢ 10 → g ≤ 134

stop : (j draw : ℕ) → draw < 90 → IsStop j (stop_before j draw)
stop j draw small = record {
  least = omega arith;
  most = grind (arith, nat_tests);
  short = λ five ten. grind (arith, nat_tests);
}

-- how late it can be before flight j
record IsEarly (j since : ℕ) : Type 0 where
  always : since ≤ 313 * j + 1200
  ten : j ≤ 10 → since ≤ 313 * j + 600
  five : j ≤ 5 → since ≤ 313 * j

later-still : (j since g d : ℕ) → IsStop j g → d ≤ 179 → IsEarly j since → IsEarly (j + 1) (since + g + d)
later-still j since g d stop short early = by (j == 5) (j == 10) refl refl
  where
    by : (p q : Bool) → (j == 5) ≡ p → (j == 10) ≡ q → IsEarly (j + 1) (since + g + d)
    by p q is_five is_ten = record {
      always = grind (arith, nat_tests, stop.most, stop.short, early.always, early.ten, early.five);
      ten = λ h. grind (arith, nat_tests, stop.most, stop.short, early.ten, early.five);
      five = λ h. grind (arith, nat_tests, stop.short, early.five);
    }

made-from : (more k j at since x : ℕ) → j + more ≡ 15 → at < 5 → IsEarly j since → All IsMade (flights_from more k j at since x)
unfolding flights_from
made-from zero k j at since x sum based early = All-nil IsMade
made-from (suc more) k j at since x sum based early =
    let f = flight_of k j at since x in
    let g = stop_before j (drawn (next x) 90) in
    let d = time_aloft (drawn (next (next x)) 120) in
    let long : IsStop j g = stop j (drawn (next x) 90) (drawn-below (next x) 90 (omega arith)) in
    let short : d ≤ 179 = omega (arith, drawn-below (next (next x)) 120 (omega arith)) in
    let after : IsEarly (j + 1) (since + g + d) = later-still j since g d long short early in
    let to : f.to < 5 = omega arith in
    All-cons IsMade f (flights_from more k (j + 1) f.to f.end (next (next (next x))))
    (record { from = based; to = to; lasts = omega arith; short = omega (arith, short); early = omega (arith, after.always) })
    (made-from more k (j + 1) f.to f.end (next (next (next x))) (omega arith) to after)

pub airport-below : (x : ℕ) → first_airport x < 5
airport-below x = drawn-below (next x) 5 (omega arith)

made-of : (k x : ℕ) → All IsMade (flights_of k x)
made-of k x = made-from 15 k 0 (first_airport x) 0 (next x) refl (airport-below x) (record { always = omega arith; ten = λ h. omega arith; five = λ h. omega arith })

pub all-made : (more k x : ℕ) → All IsMade (all_flights_from more k x)
unfolding all_flights_from
all-made zero k x = All-nil IsMade
all-made (suc more) k x = All-append IsMade (flights_of k x) (all_flights_from more (k + 1) (behind x)) (made-of k x) (all-made more (k + 1) (behind x))

pub airports-below : (more x : ℕ) → All (λ at. at < 5) (airports_from more x)
unfolding airports_from
airports-below zero x = All-nil (λ at. at < 5)
airports-below (suc more) x = All-cons (λ at. at < 5) (first_airport x) (airports_from more (behind x)) (airport-below x) (airports-below more (behind x))

pub airports-many : (more x : ℕ) → length (airports_from more x) ≡ more
unfolding airports_from
airports-many zero x = refl
airports-many (suc more) x = ap (λ (n : ℕ). suc n) (airports-many more (behind x))

pub flights-many : (more k j at since x : ℕ) → length (flights_from more k j at since x) ≡ more
unfolding flights_from
flights-many zero k j at since x = refl
flights-many (suc more) k j at since x =
    let f = flight_of k j at since x in
    ap (λ (n : ℕ). suc n) (flights-many more k (j + 1) f.to f.end (next (next (next x))))

pub all-many : (more k x : ℕ) → length (all_flights_from more k x) ≡ more * 15
unfolding all_flights_from
all-many zero k x = refl
all-many (suc more) k x =
    omega (arith, length-append (flights_of k x) (all_flights_from more (k + 1) (behind x)), flights-many 15 k 0 (first_airport x) 0 (next x), all-many more (k + 1) (behind x))

ids-made : (more k j at since x : ℕ) → map id_of (flights_from more k j at since x) ≡ ids_from more k j
unfolding flights_from ids_from
ids-made zero k j at since x = refl
ids-made (suc more) k j at since x =
    let f = flight_of k j at since x in
    ap (λ (ids : List (List ℕ)). id_of f ∷ ids) (ids-made more k (j + 1) f.to f.end (next (next (next x))))

-- the ids do not depend on the seed
pub all-ids : (more k x : ℕ) → map id_of (all_flights_from more k x) ≡ all_ids_from more k
unfolding all_flights_from all_ids_from
all-ids zero k x = refl
all-ids (suc more) k x =
    map-append id_of (flights_of k x) (all_flights_from more (k + 1) (behind x))
    ∙ rw (ids-made 15 k 0 (first_airport x) 0 (next x), all-ids more (k + 1) (behind x)) refl
