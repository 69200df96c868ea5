-- The flights of an aircraft are a legal route, and cost what their minutes do.
--
-- Each flight starts where the one before it ends, and at least 45 minutes later, while a turn takes 30. No flight is
-- longer than 179 minutes, and the stops before flights 5 and 10 clear the minutes flown, so that these are at most five
-- times 179 of 900; and fifteen landings are fewer than twenty.
use Rattle.std.proofs.Common.{◌≡◌, ◌∙◌, ◌+◌, ◌*◌, ◌-◌, ◌%◌, ◌<◌, ◌≤◌, ◌==◌, ℕ, zero, suc, ℤ, pos, ◌+ℤ◌, ◌-ℤ◌, ◌≤ℤ◌, Bool, true, false, not, if◌then◌else◌, List, [], ◌∷◌, map, length, All, slice_index_or, nat_lt, sum_by, arith, refl, sym, subst, ap}
use Rattle.std.proofs.lemmas.Bool.Decides.{nat_tests}
use Rattle.std.proofs.lemmas.Int.{ints}
use Rattle.std.proofs.lemmas.List.Sums.{sum_by-cons}
use Rattle.std.proofs.lemmas.List.Elements.{All-head, All-tail}
use Rattle.tail_book.specs.Seen.{ActivitySeen, TailSeen}
use Rattle.tail_book.specs.declared.place.Place.{Place}
use Rattle.tail_book.specs.declared.place.Place.TheVariants.{After, Carry}
use Rattle.tail_book.specs.Numbers.{contains}
use Rattle.tail_book.specs.Lookup.{no_activity, no_tail, port_turn, type_rate, type_turn}
use Rattle.tail_book.specs.Allowed.{IsAllowed}
use Rattle.tail_book.specs.Link.{IsAllowedAt, IsLink, free_from, port, turn_time}
use Rattle.tail_book.specs.Counters.{WithinLimits, step}
use Rattle.tail_book.specs.Curfew.{covers_type}
use Rattle.tail_book.specs.Route.{IsLegalFrom}
use Rattle.tail_book.specs.Cost.{activity_cost, connection_cost, cost_from}
use Rattle.seed_tables.specs.declared.flight.Flight.{Flight}
use Rattle.seed_tables.specs.Draws.{drawn, next}
use Rattle.seed_tables.specs.Flights.{flight_of, flights_from, stop_before, time_aloft}
use Rattle.seed_tables.specs.Making.{flight_cost, rate_made}
use Rattle.seed_tables.specs.inside.TrialBook.{activity_made, book_with, first_minute, kind_made, rules_made, tail_made, types_made}

-- the flight is an activity of the book, with this number
pub record IsAt (acts : List ActivitySeen) (n : ℕ) (f : Flight) : Type 0 where
  pub within : n < length acts
  pub is : slice_index_or acts n no_activity ≡ activity_made f

may-fly : (k : ℕ) → covers_type (types_made k) (kind_made k) ≡ true
may-fly k = by (k % 2 == 0)
  where
    by : (b : Bool) → covers_type (if b then [] else 1 ∷ []) (if b then 0 else 1) ≡ true
    by true = refl
    by false = refl

pub later : (base a d : ℕ) → pos (base + (a + d)) -ℤ pos (base + a) ≡ pos d
later base a d = grind (arith, ints)

at-base : (at : ℕ) → at < 5 → contains (0 ∷ 1 ∷ 2 ∷ 3 ∷ 4 ∷ []) at ≡ true
at-base zero h = refl
at-base (suc zero) h = refl
at-base (suc (suc zero)) h = refl
at-base (suc (suc (suc zero))) h = refl
at-base (suc (suc (suc (suc zero)))) h = refl
at-base (suc (suc (suc (suc (suc n))))) h = absurd (omega arith)

pub drawn-below : (x q : ℕ) → 0 < q → drawn x q < q
unfolding drawn
drawn-below x q some = omega arith

turn-is : (acts : List ActivitySeen) (tails : List TailSeen) (k : ℕ) → type_turn (book_with acts tails) (kind_made k) ≡ pos 30
turn-is acts tails k = by (k % 2 == 0)
  where
    by : (b : Bool) → type_turn (book_with acts tails) (if b then 0 else 1) ≡ pos 30
    by true = refl
    by false = refl

rate-is : (acts : List ActivitySeen) (tails : List TailSeen) (k : ℕ) → type_rate (book_with acts tails) (kind_made k) ≡ rate_made k
rate-is acts tails k = by (k % 2 == 0)
  where
    by : (b : Bool) → type_rate (book_with acts tails) (if b then 0 else 1) ≡ (if b then 1 else 2)
    by true = refl
    by false = refl

airport-turn-is : (acts : List ActivitySeen) (tails : List TailSeen) (at : ℕ) → at < 5 → port_turn (book_with acts tails) at ≡ pos 20
airport-turn-is acts tails zero h = refl
airport-turn-is acts tails (suc zero) h = refl
airport-turn-is acts tails (suc (suc zero)) h = refl
airport-turn-is acts tails (suc (suc (suc zero))) h = refl
airport-turn-is acts tails (suc (suc (suc (suc zero)))) h = refl
airport-turn-is acts tails (suc (suc (suc (suc (suc n))))) h = absurd (omega arith)

one-of-two : (b : Bool) → (if b then pos 30 else pos 0) ≤ℤ pos 30
one-of-two true = omega arith
one-of-two false = omega arith

in-time : (since g : ℕ) (turn : ℤ) → turn ≤ℤ pos 30 → 45 ≤ g → (pos (first_minute + since) +ℤ turn) ≤ℤ pos (first_minute + (since + g))
in-time since g turn short long = grind (arith, ints)

counted : (b : Bool) (fh d : ℕ) → (if b then pos 0 else pos fh) +ℤ pos d ≡ pos ((if b then 0 else fh) + d)
counted true fh d = refl
counted false fh d = refl

within : (a b : ℕ) → a ≤ b → pos a ≤ℤ pos b
within a b h = grind (arith, ints)

not-less : (g : ℕ) (b : Bool) → nat_lt g 480 ≡ b → (b ≡ true → g < 480)
not-less g b e is = grind (arith, nat_tests)

-- the stop before flight j
record IsLong (j g : ℕ) : Type 0 where
  least : 45 ≤ g
  five : j ≡ 5 → 600 ≤ g
  ten : j ≡ 10 → 600 ≤ g

stop-long : (j draw : ℕ) → IsLong j (stop_before j draw)
stop-long j draw = record {
  least = omega arith;
  five = λ is. rw is (omega arith);
  ten = λ is. rw is (omega arith);
}

-- minutes flown after flight j
flown-after : (j fh d g : ℕ) → j < 15 → (j ≡ 0 → fh ≡ 0) → fh ≤ 179 * ((j + 4) % 5 + 1) → d ≤ 179 → (j ≡ 5 → 600 ≤ g) → (j ≡ 10 → 600 ≤ g)
    → (if not (nat_lt g 480) then 0 else fh) + d ≤ 179 * ((j + 1 + 4) % 5 + 1)
flown-after j fh d g few first so_far short five ten = by (nat_lt g 480) refl
  where
    by : (b : Bool) → nat_lt g 480 ≡ b → (if not b then 0 else fh) + d ≤ 179 * ((j + 1 + 4) % 5 + 1)
    by false e = omega arith
    by true e =
        let less = not-less g true e refl in
        grind (arith, nat_tests)

module _ (acts : List ActivitySeen) (tails : List TailSeen) (k home : ℕ) (is_tail : slice_index_or tails k no_tail ≡ tail_made k home)
    (known : k < length tails) where
  allowed : (n : ℕ) (f : Flight) → f.aircraft ≡ k → IsAt acts n f → IsAllowed (book_with acts tails) k n
  allowed n f mine here = record {
    aircraft = known;
    activity = here.within;
    type = rw (here.is, is_tail, mine) (may-fly k);
    tags = rw (here.is) refl;
    leaves = rw is_tail refl;
    arrives = rw is_tail refl;
    assigned = rw (here.is) refl;
    open_hours = rw (here.is) refl;
  }

  -- the counters after a flight
  stepped : (x : Place) (n : ℕ) (f : Flight) (since g d fh count : ℕ) → IsAt acts n f → f.from < 5
      → free_from (book_with acts tails) k x ≡ pos (first_minute + since) → f.start ≡ since + g → f.end ≡ f.start + d
      → step (book_with acts tails) k x n (pos fh ∷ pos count ∷ []) ≡ pos ((if not (nat_lt g 480) then 0 else fh) + d) ∷ pos (count + 1) ∷ []
  stepped x n f since g d fh count here based free start end =
      rw (here.is, free, at-base f.from based, end, later first_minute f.start d, start, later first_minute since g, counted (not (nat_lt g 480)) fh d) refl

  turn-short : (n m : ℕ) (f : Flight) → IsAt acts n f → f.to < 5 → turn_time (book_with acts tails) k (After n) m ≤ℤ pos 30
  turn-short n m f here to =
      rw (here.is, is_tail, turn-is acts tails k, airport-turn-is acts tails f.to to) (one-of-two _)

  no-connection : (place : Place) (n : ℕ) → connection_cost (book_with acts tails) k place n ≡ 0
  no-connection Carry n = refl
  no-connection (After m) n = refl

  one-costs : (place : Place) (n : ℕ) (f : Flight) (d : ℕ) → f.aircraft ≡ k → f.end ≡ f.start + d → IsAt acts n f
      → activity_cost (book_with acts tails) k n + connection_cost (book_with acts tails) k place n ≡ flight_cost f
  one-costs place n f d mine end here =
      let gone : f.start + d - f.start ≡ d = omega arith in
      rw (no-connection place n, here.is, is_tail, rate-is acts tails k, end, later first_minute f.start d, mine, gone) (omega arith)

  module _ (number : Flight → ℕ) where
    abbrev Placed : List Flight → Type 0
    Placed flights = All (λ f. IsAt acts (number f) f) flights

    -- flights from j on, from a place where the aircraft stands since a moment
    pub legal-from : (more j at since x fh count : ℕ) (place : Place) → j + more ≡ 15 → at < 5
        → port (book_with acts tails) k place ≡ at → free_from (book_with acts tails) k place ≡ pos (first_minute + since)
        → IsAllowedAt (book_with acts tails) k place → ((m : ℕ) → turn_time (book_with acts tails) k place m ≤ℤ pos 30)
        → (j ≡ 0 → fh ≡ 0) → fh ≤ 179 * ((j + 4) % 5 + 1) → count ≡ j
        → Placed (flights_from more k j at since x)
        → IsLegalFrom (book_with acts tails) k place (pos fh ∷ pos count ∷ []) (map number (flights_from more k j at since x))
    unfolding flights_from
    legal-from zero j at since x fh count place sum based stands free may turn first so_far landed placed = tt
    legal-from (suc more) j at since x fh count place sum based stands free may turn first so_far landed placed =
        let f = flight_of k j at since x in
        let n = number f in
        let here = All-head (λ g. IsAt acts (number g) g) f (flights_from more k (j + 1) f.to f.end (next (next (next x)))) placed in
        let others = All-tail (λ g. IsAt acts (number g) g) f (flights_from more k (j + 1) f.to f.end (next (next (next x)))) placed in
        let g = stop_before j (drawn (next x) 90) in
        let d = time_aloft (drawn (next (next x)) 120) in
        let fh_after = (if not (nat_lt g 480) then 0 else fh) + d in
        let flies = allowed n f refl here in
        let values = stepped place n f since g d fh count here based free refl refl in
        let long = stop-long j (drawn (next x) 90) in
        let short : d ≤ 179 = omega (arith, drawn-below (next (next x)) 120 (omega arith)) in
        let spent : fh_after ≤ 179 * ((j + 1 + 4) % 5 + 1) = flown-after j fh d g (omega arith) first so_far short long.five long.ten in
        let to : f.to < 5 = omega arith in
        let link : IsLink (book_with acts tails) k place n = record {
          place = stands ∙ rw (here.is) refl;
          time = rw (free, here.is) (in-time since g (turn_time (book_with acts tails) k place n) (turn n) (omega (arith, long.least)));
          before = may;
          after = flies;
        } in (
          here.within,
          link,
          subst (λ (v : List ℤ). WithinLimits rules_made.counters v) (sym values) (within fh_after 900 (omega arith), (within (count + 1) 20 (omega arith), tt)),
          subst (λ (v : List ℤ). IsLegalFrom (book_with acts tails) k (After n) v (map number (flights_from more k (j + 1) f.to f.end (next (next (next x)))))) (sym values)
              (legal-from more (j + 1) f.to f.end (next (next (next x))) fh_after (count + 1) (After n) (omega arith) to
              (rw (here.is) refl) (rw (here.is) refl) flies (λ m. turn-short n m f here to) (λ none. absurd (omega arith)) spent (omega arith) others),
        )

    pub costs-from : (more j at since x : ℕ) (place : Place) → Placed (flights_from more k j at since x)
        → cost_from (book_with acts tails) k place (map number (flights_from more k j at since x)) ≡ sum_by flight_cost (flights_from more k j at since x)
    unfolding flights_from
    costs-from zero j at since x place placed = refl
    costs-from (suc more) j at since x place placed =
        let f = flight_of k j at since x in
        let here = All-head (λ g. IsAt acts (number g) g) f (flights_from more k (j + 1) f.to f.end (next (next (next x)))) placed in
        let others = All-tail (λ g. IsAt acts (number g) g) f (flights_from more k (j + 1) f.to f.end (next (next (next x)))) placed in
        let d = time_aloft (drawn (next (next x)) 120) in
        rw (costs-from more (j + 1) f.to f.end (next (next (next x))) (After (number f)) others)
        (ap (λ (c : ℕ). c + sum_by flight_cost (flights_from more k (j + 1) f.to f.end (next (next (next x))))) (one-costs place (number f) f d refl refl here)
        ∙ sym (sum_by-cons flight_cost f (flights_from more k (j + 1) f.to f.end (next (next (next x))))))
