-- The routes of the making, and what they cost. For src/trial.rt and src/laws.rt.
use Rattle.std.specs.Prelude.{ℕ, zero, suc, ◌≡◌, ◌+◌, ◌*◌, ◌-◌, ◌%◌, ◌==◌, if◌then◌else◌, List, [], ◌∷◌, map, sum_by, Ok}
use Rattle.tail_book.specs.Seen.{BookSeen}
use Rattle.tail_book.specs.Cost.{plan_cost}
use Rattle.tail_book.specs.Truth.{CostsAtLeastBy, IsPlanOf}
use Rattle.book_maker.specs.Made.{book_of}
use Rattle.book_maker.specs.NameNumbers.{place_in}
use Rattle.seed_tables.specs.declared.flight.Flight.{Flight}
use Rattle.seed_tables.specs.Flights.{all_flights, behind, flights_of}
use Rattle.seed_tables.specs.Rows.{flight_id}
use Rattle.seed_tables.specs.Trial.{TrialSeen}

-- what a minute in the air costs: 1 with type `P`, and 2 with type `Q`
abbrev pub rate_made : ℕ → ℕ
rate_made k = if k % 2 == 0 then 1 else 2

-- what a flight costs the aircraft for which it was made
abbrev pub flight_cost : Flight → ℕ
flight_cost f = rate_made f.aircraft * (f.end - f.start)

-- what the routes of the making cost
abbrev pub making_cost : ℕ → ℕ
making_cost seed = sum_by flight_cost (all_flights seed)

-- the number that a book gives a flight, by its id
abbrev pub number_in : BookSeen → Flight → ℕ
number_in book f = place_in (map (λ a. a.id) book.activities) (flight_id f.aircraft f.number)

-- the flights of so many aircraft, from aircraft k on, each in the order of their making
unfoldable pub routes_from : BookSeen → ℕ → ℕ → ℕ → List (List ℕ)
routes_from book zero k x = []
routes_from book (suc more) k x = map (number_in book) (flights_of k x) ∷ routes_from book more (k + 1) (behind x)

-- the routes of the making
abbrev pub making_plan : BookSeen → ℕ → List (List ℕ)
making_plan book seed = routes_from book 8 0 seed

-- the three texts are this book; what each aircraft was made to fly is a legal plan of it, which costs what was made; and
-- no legal plan costs less
pub record IsBookOfTrial (seed : ℕ) (trial : TrialSeen) (book : BookSeen) : Type 0 where
  pub read : book_of trial.timetable trial.fleet trial.rules ≡ Ok book
  pub plan : IsPlanOf book (making_cost seed) (making_plan book seed)
  pub least : CostsAtLeastBy (plan_cost book) book (making_cost seed)

-- there is such a book
abbrev pub HasBook : ℕ → TrialSeen → Type 0
HasBook seed trial = (book : BookSeen) × IsBookOfTrial seed trial book
