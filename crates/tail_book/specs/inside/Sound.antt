-- What every book keeps: order, distinct names, ranges and limits.
use Rattle.std.specs.Prelude.{ℕ, ℤ, pos, ◌*ℤ◌, ◌+ℤ◌, ◌-ℤ◌, ◌≤ℤ◌, ◌<ℤ◌, ◌<◌, ◌≤◌, ◌≡◌, ◌≢◌, Bool, true, length, All, AllPairs, IsTrue, nat_lt, Option, None, Some}
use Rattle.tail_book.specs.declared.limits.TheConstants.{ACTIVITY_LIMIT, TAIL_LIMIT, TYPE_LIMIT, AIRPORT_LIMIT, CURFEW_LIMIT, COUNTER_LIMIT, BAND_LIMIT, ITEM_LIMIT, BASE_LIMIT, LAST_MOMENT, DAY, SPAN_LIMIT, OFFSET_LIMIT, STOP_LIMIT, VALUE_LIMIT, DAYS_LIMIT, RATE_LIMIT, FIXED_LIMIT, BAND_COST_LIMIT}
use Rattle.tail_book.specs.Name.{is_name}
use Rattle.tail_book.specs.Seen.{ActivitySeen, TailSeen, AirportSeen, CurfewSeen, CounterSeen, RulesSeen, BookSeen}
use Rattle.tail_book.specs.declared.rules.AircraftType.{AircraftType}
use Rattle.tail_book.specs.declared.rules.Band.{Band}
use Rattle.tail_book.specs.declared.rules.CounterKind.{CounterKind}
use Rattle.tail_book.specs.declared.rules.CounterKind.TheVariants.{Minutes, Landings, Days}
use Rattle.tail_book.specs.ActivityOrder.{comes_before}
use Rattle.tail_book.specs.Ranges.{IsWithin}

-- a moment from 1970-01-01T00:00 to 2199-12-31T23:59, in minutes
abbrev pub IsMoment : ℤ → Type 0
IsMoment z = IsWithin (pos 0) LAST_MOMENT z

-- nobody, or one of the aircraft
abbrev pub is_none_or_below : Option ℕ → ℕ → Bool
is_none_or_below None n = true
is_none_or_below (Some k) n = nat_lt k n

-- an activity lasts from 1 to 2,880 minutes, and its numbers are of the book
pub record IsActivity (rules : RulesSeen) (aircraft : ℕ) (a : ActivitySeen) : Type 0 where
  pub id : IsTrue (is_name a.id)
  pub from : a.from < length rules.airports
  pub to : a.to < length rules.airports
  pub start : IsMoment a.start
  pub end : IsMoment a.end
  pub lasts : (a.start +ℤ pos 1) ≤ℤ a.end
  pub short : a.end ≤ℤ (a.start +ℤ SPAN_LIMIT)
  pub types : All (λ t. t < length rules.kinds) a.types
  pub few_types : length a.types ≤ ITEM_LIMIT
  pub few_tags : length a.tags ≤ ITEM_LIMIT
  pub tail : IsTrue (is_none_or_below a.tail aircraft)
  pub resets : All (λ c. c < length rules.counters) a.resets
  pub few_resets : length a.resets ≤ ITEM_LIMIT

-- an aircraft's numbers are of the book, with one carry value for each counter
pub record IsTail (rules : RulesSeen) (t : TailSeen) : Type 0 where
  pub name : IsTrue (is_name t.name)
  pub kind : t.kind < length rules.kinds
  pub at : t.at < length rules.airports
  pub ready : IsMoment t.ready
  pub fixed : t.fixed ≤ FIXED_LIMIT
  pub few_tags : length t.tags ≤ ITEM_LIMIT
  pub avoid : All (λ p. p < length rules.airports) t.avoid
  pub few_avoided : length t.avoid ≤ ITEM_LIMIT
  pub carry : All (IsWithin (pos 0) VALUE_LIMIT) t.carry
  pub one_carry_each : length t.carry ≡ length rules.counters

-- a minute flown costs at most 300, and a turn takes at most a day
pub record IsKind (t : AircraftType) : Type 0 where
  pub name : IsTrue (is_name t.name)
  pub rate : t.rate ≤ RATE_LIMIT
  pub turn : IsWithin (pos 0) DAY t.turn

-- local time is at most 14 hours from UTC
abbrev pub IsOffset : ℤ → Type 0
IsOffset z = IsWithin (pos 0 -ℤ OFFSET_LIMIT) OFFSET_LIMIT z

-- so it is before the first change and after each of them, and the moments of the changes rise
pub record IsAirport (p : AirportSeen) : Type 0 where
  pub name : IsTrue (is_name p.name)
  pub offset : IsOffset p.offset
  pub turn : IsWithin (pos 0) DAY p.turn
  pub changes : All (λ change. IsOffset change.offset) p.changes
  pub rising : AllPairs (λ a b. a.at <ℤ b.at) p.changes

-- a curfew's ends are minutes of the local day, and its airport and its at most 20 types are of the book
pub record IsCurfew (rules : RulesSeen) (c : CurfewSeen) : Type 0 where
  pub airport : c.airport < length rules.airports
  pub from : IsWithin (pos 0) (DAY -ℤ pos 1) c.from
  pub to : IsWithin (pos 0) (DAY -ℤ pos 1) c.to
  pub types : All (λ t. t < length rules.kinds) c.types
  pub few_types : length c.types ≤ ITEM_LIMIT

-- what a limit may be: 1 to 10,000,000, and for days 1 to 10,000 of them, in minutes
abbrev pub IsLimit : CounterKind → ℤ → Type 0
IsLimit Minutes limit = IsWithin (pos 1) VALUE_LIMIT limit
IsLimit Landings limit = IsWithin (pos 1) VALUE_LIMIT limit
IsLimit Days limit = (days : ℤ) × (limit ≡ days *ℤ DAY) × IsWithin (pos 1) DAYS_LIMIT days

-- a counter has such a limit, at most 200 bases, all of the book, and a stop of 1 to 100,000 minutes
pub record IsCounter (rules : RulesSeen) (c : CounterSeen) : Type 0 where
  pub name : IsTrue (is_name c.name)
  pub limit : IsLimit c.kind c.limit
  pub bases : All (λ p. p < length rules.airports) c.bases
  pub few_bases : length c.bases ≤ BASE_LIMIT
  pub stop : IsWithin (pos 1) STOP_LIMIT c.stop

-- a band reaches at most 10,000,000 minutes and costs at most 1,000,000
pub record IsBand (b : Band) : Type 0 where
  pub upto : IsWithin (pos 0) VALUE_LIMIT b.upto
  pub cost : b.cost ≤ BAND_COST_LIMIT

-- the rules of a book: at most 20 types, 200 airports, 400 curfews, 6 counters and 8 bands
pub record IsRules (rules : RulesSeen) : Type 0 where
  pub kinds : All IsKind rules.kinds
  pub kind_names : AllPairs (λ a b. a.name ≢ b.name) rules.kinds
  pub few_kinds : length rules.kinds ≤ TYPE_LIMIT
  pub airports : All IsAirport rules.airports
  pub airport_names : AllPairs (λ a b. a.name ≢ b.name) rules.airports
  pub few_airports : length rules.airports ≤ AIRPORT_LIMIT
  pub curfews : All (IsCurfew rules) rules.curfews
  pub few_curfews : length rules.curfews ≤ CURFEW_LIMIT
  pub counters : All (IsCounter rules) rules.counters
  pub counter_names : AllPairs (λ a b. a.name ≢ b.name) rules.counters
  pub few_counters : length rules.counters ≤ COUNTER_LIMIT
  pub bands : All IsBand rules.bands
  pub few_bands : length rules.bands ≤ BAND_LIMIT

-- a book: at most 4,000 activities in order, whose ids differ, and at most 200 aircraft, whose names differ
pub record IsBook (book : BookSeen) : Type 0 where
  pub activities : All (IsActivity book.rules (length book.tails)) book.activities
  pub ordered : AllPairs (λ a b. IsTrue (comes_before a b)) book.activities
  pub ids : AllPairs (λ a b. a.id ≢ b.id) book.activities
  pub few_activities : length book.activities ≤ ACTIVITY_LIMIT
  pub tails : All (IsTail book.rules) book.tails
  pub tail_names : AllPairs (λ a b. a.name ≢ b.name) book.tails
  pub few_tails : length book.tails ≤ TAIL_LIMIT
  pub rules : IsRules book.rules
