-- What every book keeps, and what every cost table keeps, as tests that compute.
-- For src/sound.rt, src/cost_table.rt and others.
use Rattle.std.specs.Prelude.{ℕ, ℤ, pos, ◌+ℤ◌, ◌-ℤ◌, ◌*◌, ◌+◌, ◌^◌, ◌%◌, ◌==◌, Bool, ◌&&◌, not, List, length, nat_lt, nat_le, int_lt, unsigned_abs, bytes_eq}
use Rattle.std.specs.Bool.{Decides}
use Rattle.std.specs.List.{list_all}
use Rattle.tail_book.specs.declared.limits.TheConstants.{ACTIVITY_LIMIT, TAIL_LIMIT, TYPE_LIMIT, AIRPORT_LIMIT, CURFEW_LIMIT, COUNTER_LIMIT, BAND_LIMIT, ITEM_LIMIT, BASE_LIMIT, LAST_MOMENT, DAY, SPAN_LIMIT, OFFSET_LIMIT, STOP_LIMIT, VALUE_LIMIT, COUNT_LIMIT, RATE_LIMIT, FIXED_LIMIT, BAND_COST_LIMIT}
use Rattle.tail_book.specs.Name.{is_name}
use Rattle.tail_book.specs.Numbers.{int_le}
use Rattle.tail_book.specs.Seen.{ActivitySeen, TailSeen, CurfewSeen, CounterSeen, AirportSeen, RulesSeen, BookSeen}
use Rattle.tail_book.specs.TableSeen.{CostTableSeen}
use Rattle.tail_book.specs.inside.Sound.{is_none_or_below, IsBook}
use Rattle.tail_book.specs.ActivityOrder.{comes_before}
use Rattle.tail_book.specs.CostTable.{cost_unit, IsCostTable}
use Rattle.tail_book.specs.declared.rules.AircraftType.{AircraftType}
use Rattle.tail_book.specs.declared.rules.Band.{Band}
use Rattle.tail_book.specs.declared.rules.Change.{Change}
use Rattle.tail_book.specs.declared.rules.CounterKind.{CounterKind}
use Rattle.tail_book.specs.declared.rules.CounterKind.TheVariants.{Minutes, Landings, Days}
use Rattle.tail_book.specs.Pairs.{each_pair}

-- the number lies in the range, both ends included
abbrev pub is_within : ℤ → ℤ → ℤ → Bool
is_within low high z = int_le low z && int_le z high

-- the moment lies between the first and the last minute of a book
abbrev pub is_moment : ℤ → Bool
is_moment z = is_within (pos 0) LAST_MOMENT z

-- each number is below n
abbrev pub are_below : ℕ → List ℕ → Bool
are_below n numbers = list_all (λ x. nat_lt x n) numbers

-- an activity with these ends lasts from 1 to 2,880 minutes
abbrev pub lasts : ℤ → ℤ → Bool
lasts start end = int_le (start +ℤ pos 1) end && int_le end (start +ℤ SPAN_LIMIT)

-- an activity begins and ends at moments of a book, and lasts as long as it may
abbrev pub is_timed : ActivitySeen → Bool
is_timed a = is_moment a.start && (is_moment a.end && lasts a.start a.end)

-- the numbers that an activity names are of the book
abbrev pub names_of_book : RulesSeen → ℕ → ActivitySeen → Bool
names_of_book rules aircraft a =
    nat_lt a.from (length rules.airports)
    && (nat_lt a.to (length rules.airports)
    && (are_below (length rules.kinds) a.types
    && (is_none_or_below a.tail aircraft && are_below (length rules.counters) a.resets)))

-- none of an activity's lists has more than 20 entries
abbrev pub has_short_lists : ActivitySeen → Bool
has_short_lists a = nat_le (length a.types) ITEM_LIMIT && (nat_le (length a.tags) ITEM_LIMIT && nat_le (length a.resets) ITEM_LIMIT)

-- an activity of a book with these rules and so many aircraft
abbrev pub is_activity : RulesSeen → ℕ → ActivitySeen → Bool
is_activity rules aircraft a = is_name a.id && (is_timed a && (names_of_book rules aircraft a && has_short_lists a))

-- an aircraft comes in at a place and a moment of the book, and its fixed costs are within their limit
abbrev pub comes_in : RulesSeen → TailSeen → Bool
comes_in rules t =
    nat_lt t.kind (length rules.kinds)
    && (nat_lt t.at (length rules.airports)
    && (is_moment t.ready && nat_le t.fixed FIXED_LIMIT))

-- an aircraft has at most 20 tags, and avoids at most 20 airports, all of the book
abbrev pub has_short_marks : RulesSeen → TailSeen → Bool
has_short_marks rules t =
    nat_le (length t.tags) ITEM_LIMIT
    && (are_below (length rules.airports) t.avoid && nat_le (length t.avoid) ITEM_LIMIT)

-- an aircraft carries a value for each counter
abbrev pub carries_each : RulesSeen → TailSeen → Bool
carries_each rules t = list_all (is_within (pos 0) VALUE_LIMIT) t.carry && length t.carry == length rules.counters

-- an aircraft of a book with these rules
abbrev pub is_tail : RulesSeen → TailSeen → Bool
is_tail rules t = is_name t.name && (comes_in rules t && (has_short_marks rules t && carries_each rules t))

-- a type costs at most 300 a minute, and turns in at most a day
abbrev pub is_kind : AircraftType → Bool
is_kind t = is_name t.name && (nat_le t.rate RATE_LIMIT && is_within (pos 0) DAY t.turn)

-- local time is at most 14 hours from UTC
abbrev pub is_offset : ℤ → Bool
is_offset z = is_within (pos 0 -ℤ OFFSET_LIMIT) OFFSET_LIMIT z

-- it is so after a change
abbrev pub is_change : Change → Bool
is_change change = is_offset change.offset

-- one change comes sooner than another
abbrev pub comes_sooner : Change → Change → Bool
comes_sooner a b = int_lt a.at b.at

-- an airport's local time is at most 14 hours from UTC, and its changes come one after the other
abbrev pub is_airport : AirportSeen → Bool
is_airport p =
    is_name p.name
    && (is_offset p.offset
    && (is_within (pos 0) DAY p.turn
    && (list_all is_change p.changes && each_pair comes_sooner p.changes)))

-- a curfew of a book with these rules
abbrev pub is_curfew : RulesSeen → CurfewSeen → Bool
is_curfew rules c =
    nat_lt c.airport (length rules.airports)
    && (is_within (pos 0) (DAY -ℤ pos 1) c.from
    && (is_within (pos 0) (DAY -ℤ pos 1) c.to
    && (are_below (length rules.kinds) c.types && nat_le (length c.types) ITEM_LIMIT)))

-- a limit of days is in minutes of whole days
abbrev pub is_limit : CounterKind → ℤ → Bool
is_limit Minutes limit = is_within (pos 1) VALUE_LIMIT limit
is_limit Landings limit = is_within (pos 1) VALUE_LIMIT limit
is_limit Days limit = is_within DAY COUNT_LIMIT limit && unsigned_abs limit % 1440 == 0

-- a counter of a book with these rules
abbrev pub is_counter : RulesSeen → CounterSeen → Bool
is_counter rules c =
    is_name c.name
    && (is_limit c.kind c.limit
    && (are_below (length rules.airports) c.bases
    && (nat_le (length c.bases) BASE_LIMIT && is_within (pos 1) STOP_LIMIT c.stop)))

-- a band reaches at most 10,000,000 minutes and costs at most 1,000,000
abbrev pub is_band : Band → Bool
is_band b = is_within (pos 0) VALUE_LIMIT b.upto && nat_le b.cost BAND_COST_LIMIT

-- at most 20 types, whose names differ
abbrev pub are_kinds : List AircraftType → Bool
are_kinds kinds = nat_le (length kinds) TYPE_LIMIT && (list_all is_kind kinds && each_pair (λ a b. not (bytes_eq a.name b.name)) kinds)

-- at most 200 airports, whose names differ
abbrev pub are_airports : List AirportSeen → Bool
are_airports airports = nat_le (length airports) AIRPORT_LIMIT && (list_all is_airport airports && each_pair (λ a b. not (bytes_eq a.name b.name)) airports)

-- at most 6 counters, whose names differ
abbrev pub are_counters : RulesSeen → Bool
are_counters rules =
    nat_le (length rules.counters) COUNTER_LIMIT
    && (list_all (is_counter rules) rules.counters && each_pair (λ a b. not (bytes_eq a.name b.name)) rules.counters)

-- at most 400 curfews
abbrev pub are_curfews : RulesSeen → Bool
are_curfews rules = nat_le (length rules.curfews) CURFEW_LIMIT && list_all (is_curfew rules) rules.curfews

-- at most 8 bands
abbrev pub are_bands : List Band → Bool
are_bands bands = nat_le (length bands) BAND_LIMIT && list_all is_band bands

-- the rules of a book
abbrev pub are_rules : RulesSeen → Bool
are_rules rules = are_kinds rules.kinds && (are_airports rules.airports && (are_curfews rules && (are_counters rules && are_bands rules.bands)))

-- at most 4,000 activities, in order, whose ids differ
abbrev pub are_activities : RulesSeen → ℕ → List ActivitySeen → Bool
are_activities rules aircraft activities =
    nat_le (length activities) ACTIVITY_LIMIT
    && (list_all (is_activity rules aircraft) activities
    && (each_pair comes_before activities && each_pair (λ a b. not (bytes_eq a.id b.id)) activities))

-- at most 200 aircraft, whose names differ
abbrev pub are_tails : RulesSeen → List TailSeen → Bool
are_tails rules tails = nat_le (length tails) TAIL_LIMIT && (list_all (is_tail rules) tails && each_pair (λ a b. not (bytes_eq a.name b.name)) tails)

-- what every book keeps
abbrev pub is_book : BookSeen → Bool
is_book book = are_rules book.rules && (are_tails book.rules book.tails && are_activities book.rules (length book.tails) book.activities)

-- no sum of thousandths of a table's costs and of duals passes 2^61
abbrev pub sums_fit : ℕ → ℕ → Bool
sums_fit n greatest = nat_le (n * (cost_unit * (greatest + 1)) + cost_unit * greatest) (2 ^ 61)

-- with costs for n activities each entry and each band is within its maximum, and so are the sums
abbrev pub keeps_maxima : ℕ → List ℕ → List Band → ℕ → ℕ → Bool
keeps_maxima n fly bands fly_max band_max =
    list_all (λ cost. nat_le cost fly_max) fly
    && (list_all (λ band. nat_le band.cost band_max) bands
    && sums_fit n (n * (fly_max + band_max)))

-- what every cost table keeps
abbrev pub is_cost_table : CostTableSeen → Bool
is_cost_table table = keeps_maxima table.n table.fly table.bands table.fly_max table.band_max

-- each test is true exactly where its fact holds
abbrev pub BookDecides : Type 0
BookDecides = (book : BookSeen) → Decides (is_book book) (IsBook book)

abbrev pub CostTableDecides : Type 0
CostTableDecides = (table : CostTableSeen) → Decides (is_cost_table table) (IsCostTable table)
