-- The names in a trial's tables are all found, and so the three texts are a book.
--
-- Airports and types are few, so each is looked up by cases. The ids of flights and the names of aircraft are new one
-- after the other, so no entry is refused as a second one. Flights and aircraft go by induction on their lists.
use Rattle.std.proofs.Common.{◌≡◌, ◌+◌, ◌%◌, ◌<◌, ◌==◌, ℕ, zero, suc, Bool, true, false, if◌then◌else◌, List, [], ◌∷◌, ◌++◌, Some, Ok, map, All, arith, refl}
use Rattle.std.specs.Prelude.{codes}
use Rattle.std.proofs.lemmas.List.Elements.{All-head, All-tail}
use Rattle.tail_text.specs.declared.refusal.Table.TheVariants.{Fleet, Timetable}
use Rattle.book_maker.specs.ActivityFound.{activity_in}
use Rattle.book_maker.specs.CarryFound.{carry_from}
use Rattle.book_maker.specs.LookedUp.{looked_up_from}
use Rattle.book_maker.specs.Made.{activities_in, book_of, made_of, tails_in}
use Rattle.book_maker.specs.NameNumbers.{number_in, numbers_in}
use Rattle.book_maker.specs.RulesFound.{airport_names, counter_names, kind_names, rules_in}
use Rattle.book_maker.specs.Tags.{tags_of}
use Rattle.book_maker.specs.TailFound.{tail_in}
use Rattle.seed_tables.specs.declared.flight.Flight.{Flight}
use Rattle.seed_tables.specs.Flights.{airports_from, all_flights, first_airports}
use Rattle.seed_tables.specs.Rows.{aircraft_name, airport_name, type_name}
use Rattle.seed_tables.specs.Trial.{fleet_text, rules_text, timetable_text}
use Rattle.seed_tables.specs.inside.Ids.{aircraft_names, are_new, id_of}
use Rattle.seed_tables.specs.inside.RawTrial.{raw_flight, raw_rules, raw_tail, raw_tails, type_names}
use Rattle.seed_tables.specs.inside.TrialBook.{activity_made, book_made, kind_made, rules_made, tail_made, tails_made, types_made}
use Rattle.seed_tables.proofs.MadeLemmas.{airports-below, airports-many, all-ids, all-made, all-many}
use Rattle.seed_tables.proofs.NewNames.{first-new, ids-new, others-new}
use Rattle.seed_tables.proofs.ReadLemmas.{IsMade, fleet-read, timetable-read}
use Rattle.seed_tables.proofs.RulesLemmas.{rules-read}

airport-found : (at : ℕ) → at < 5 → number_in (airport_names raw_rules) (airport_name at) ≡ Ok at
airport-found zero h = refl
airport-found (suc zero) h = refl
airport-found (suc (suc zero)) h = refl
airport-found (suc (suc (suc zero))) h = refl
airport-found (suc (suc (suc (suc zero)))) h = refl
airport-found (suc (suc (suc (suc (suc n))))) h = absurd (omega arith)

types-found : (k : ℕ) → numbers_in (kind_names raw_rules) (type_names k) ≡ Ok (types_made k)
types-found k = by (k % 2 == 0)
  where
    by : (b : Bool) → numbers_in (kind_names raw_rules) (if b then [] else codes "Q" ∷ []) ≡ Ok (if b then [] else 1 ∷ [])
    by true = refl
    by false = refl

type-found : (k : ℕ) → number_in (kind_names raw_rules) (type_name k) ≡ Ok (kind_made k)
type-found k = by (k % 2 == 0)
  where
    by : (b : Bool) → number_in (kind_names raw_rules) (if b then codes "P" else codes "Q") ≡ Ok (if b then 0 else 1)
    by true = refl
    by false = refl

flight-found : (tails tags : List (List ℕ)) (f : Flight) → IsMade f
    → activity_in (kind_names raw_rules) (airport_names raw_rules) (counter_names raw_rules) tails tags (raw_flight f) ≡ Ok (activity_made f)
flight-found tails tags f made = rw (airport-found f.from made.from, airport-found f.to made.to, types-found f.aircraft) refl

flights-found : (tails tags before : List (List ℕ)) (place : ℕ) (flights : List Flight) → All IsMade flights → are_new before (map id_of flights) ≡ true
    → looked_up_from Timetable (λ a. Some a.id) (activity_in (kind_names raw_rules) (airport_names raw_rules) (counter_names raw_rules) tails tags) place before (map raw_flight flights)
    ≡ Ok (map activity_made flights)
unfolding looked_up_from
flights-found tails tags before place [] made new = refl
flights-found tails tags before place (f ∷ flights) made new =
    rw (
      first-new before (id_of f) (map id_of flights) new,
      flight-found tails tags f (All-head IsMade f flights made),
      flights-found tails tags (before ++ id_of f ∷ []) (place + 1) flights (All-tail IsMade f flights made) (others-new before (id_of f) (map id_of flights) new),
    ) refl

tail-found : (tags : List (List ℕ)) (k at : ℕ) → at < 5
    → tail_in (kind_names raw_rules) (airport_names raw_rules) (counter_names raw_rules) tags (raw_tail k at) ≡ Ok (tail_made k at)
unfolding carry_from
tail-found tags k at h = rw (type-found k, airport-found at h) refl

tails-found : (tags before : List (List ℕ)) (k place : ℕ) (airports : List ℕ) → All (λ at. at < 5) airports → are_new before (aircraft_names k airports) ≡ true
    → looked_up_from Fleet (λ t. Some t.name) (tail_in (kind_names raw_rules) (airport_names raw_rules) (counter_names raw_rules) tags) place before (raw_tails k airports)
    ≡ Ok (tails_made k airports)
unfolding looked_up_from
tails-found tags before k place [] below new = refl
tails-found tags before k place (at ∷ more) below new =
    rw (
      first-new before (aircraft_name k) (aircraft_names (k + 1) more) new,
      tail-found tags k at (All-head (λ at. at < 5) at more below),
      tails-found tags (before ++ aircraft_name k ∷ []) (k + 1) (place + 1) more (All-tail (λ at. at < 5) at more below) (others-new before (aircraft_name k) (aircraft_names (k + 1) more) new),
    ) refl

names-new : (x : ℕ) → are_new [] (aircraft_names 0 (airports_from 8 x)) ≡ true
unfolding airports_from are_new
names-new x = refl

rules-found : rules_in raw_rules ≡ Ok rules_made
unfolding looked_up_from
rules-found = refl

made : (seed : ℕ) → made_of (map raw_flight (all_flights seed)) (raw_tails 0 (first_airports seed)) raw_rules ≡ Ok (book_made seed)
made seed =
    let tags = tags_of (raw_tails 0 (first_airports seed)) (map raw_flight (all_flights seed)) in
    let tails : tails_in raw_rules tags (raw_tails 0 (first_airports seed)) ≡ Ok (tails_made 0 (first_airports seed)) =
    tails-found tags [] 0 2 (first_airports seed) (airports-below 8 seed) (names-new seed) in
    let activities : activities_in raw_rules (raw_tails 0 (first_airports seed)) tags (map raw_flight (all_flights seed)) ≡ Ok (map activity_made (all_flights seed)) =
    flights-found (map (λ t. t.name) (raw_tails 0 (first_airports seed))) tags [] 2 (all_flights seed) (all-made 8 0 seed)
    (rw (all-ids 8 0 seed) ids-new) in
    rw (rules-found, tails, activities) refl

-- the three texts are a book
pub book-read : (seed : ℕ) → book_of (timetable_text seed) (fleet_text seed) rules_text ≡ Ok (book_made seed)
unfolding book_of
book-read seed =
    rw (
      timetable-read (all_flights seed) (all-made 8 0 seed) (omega (arith, all-many 8 0 seed)),
      fleet-read (first_airports seed) (omega (arith, airports-many 8 seed)),
      rules-read,
    ) (made seed)
