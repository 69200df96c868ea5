-- What a step reads, as rows: of each activity, of each counter and of each aircraft.
use Rattle.std.specs.Prelude.{ℕ, ℤ, pos, ◌+ℤ◌, ◌-ℤ◌, ◌≤ℤ◌, ◌≡◌, ◌<◌, List, [], Bool, ◌&&◌, if◌then◌else◌, length, slice_index_or}
use Rattle.tail_book.specs.declared.limits.TheConstants.{SPAN_LIMIT}
use Rattle.tail_book.specs.Seen.{BookSeen, CounterSeen}
use Rattle.tail_book.specs.Numbers.{contains, int_le}
use Rattle.tail_book.specs.Lookup.{activities, aircraft, tail_of, is_flight, from_port, start_of, end_of, resets_of}
use Rattle.tail_book.specs.Counters.{flown}
use Rattle.tail_book.specs.Ranges.{IsWithin}
use Rattle.tail_book.specs.inside.Sound.{IsMoment}
use Rattle.tail_book.specs.declared.rules.CounterKind.{CounterKind}
use Rattle.tail_book.specs.declared.rules.CounterKind.TheVariants.{Minutes, Landings, Days}
use Rattle.turn_rules.specs.inside.NumberSet.{has}
use Rattle.maint_counters.specs.declared.step_table.ActivityRow.{ActivityRow}
use Rattle.maint_counters.specs.declared.step_table.CounterRow.{CounterRow}
use Rattle.maint_counters.specs.declared.step_table.StepTable.{StepTable}

-- what stands where a book has no counter of a number, and where a table has no row of one
abbrev pub no_counter : CounterSeen
no_counter = record { name = []; kind = Minutes; limit = pos 0; bases = []; stop = pos 0 }

abbrev pub no_activity_row : ActivityRow
no_activity_row = record { start = pos 0; end = pos 0; flown = pos 0; landings = pos 0; based = record { bits = 0 }; resets = record { bits = 0 } }

abbrev pub no_counter_row : CounterRow
no_counter_row = record { kind = Minutes; limit = pos 0; stop = pos 0 }

-- the counter of a number
abbrev pub counter_of : BookSeen → ℕ → CounterSeen
counter_of book c = slice_index_or book.rules.counters c no_counter

-- the row's minutes are moments, and what it adds lies where an activity's does
pub record IsInRange (row : ActivityRow) : Type 0 where
  pub start : IsMoment row.start
  pub end : IsMoment row.end
  pub forward : row.start ≤ℤ row.end
  pub flown : IsWithin (pos 0) SPAN_LIMIT row.flown
  pub landings : IsWithin (pos 0) (pos 1) row.landings

-- the row is of activity a: its minutes, what it adds, the counters with a base where it starts, and those that it resets
pub record IsActivityRow (book : BookSeen) (a : ℕ) (row : ActivityRow) : Type 0 where
  pub start : row.start ≡ start_of book a
  pub end : row.end ≡ end_of book a
  pub flown : row.flown ≡ flown book a
  pub landings : row.landings ≡ (if is_flight book a then pos 1 else pos 0)
  pub based : (c : ℕ) → c < length book.rules.counters → has row.based c ≡ contains (counter_of book c).bases (from_port book a)
  pub resets : (c : ℕ) → has row.resets c ≡ contains (resets_of book a) c
  pub range : IsInRange row

-- the row is of this counter
pub record IsCounterRow (counter : CounterSeen) (row : CounterRow) : Type 0 where
  pub kind : row.kind ≡ counter.kind
  pub limit : row.limit ≡ counter.limit
  pub stop : row.stop ≡ counter.stop

-- each of these is the row of the book's activity, or of its counter, of the same number
abbrev pub AreActivityRows : BookSeen → List ActivityRow → Type 0
AreActivityRows book rows = (a : ℕ) → a < activities book → IsActivityRow book a (slice_index_or rows a no_activity_row)

abbrev pub AreCounterRows : BookSeen → List CounterRow → Type 0
AreCounterRows book rows =
    (c : ℕ) → c < length book.rules.counters → IsCounterRow (counter_of book c) (slice_index_or rows c no_counter_row)

-- the table has a row for each activity and each counter of the book, and the minute from which each aircraft is ready
pub record IsStepTableOf (book : BookSeen) (table : StepTable) : Type 0 where
  pub activity_rows : length table.activities.items ≡ activities book
  pub counter_rows : length table.counters.items ≡ length book.rules.counters
  pub ready_minutes : length table.ready.items ≡ aircraft book
  pub each_activity : AreActivityRows book table.activities.items
  pub each_counter : AreCounterRows book table.counters.items
  pub each_aircraft : (k : ℕ) → k < aircraft book → slice_index_or table.ready.items k (pos 0) ≡ (tail_of book k).ready

-- a stop that ends when the activity of the row starts clears counter c, where the aircraft is free from a minute on
abbrev pub clears_in : ActivityRow → CounterRow → ℕ → ℤ → Bool
clears_in row counter c free = has row.based c && int_le counter.stop (row.start -ℤ free)

-- what the activity of the row adds to a counter of a kind
abbrev pub added_in : ActivityRow → ℤ → Bool → CounterKind → ℤ
added_in row free cleared Minutes = row.flown
added_in row free cleared Landings = row.landings
added_in row free cleared Days = row.end -ℤ (if cleared then row.start else free)

-- counter c after the activity of the row
abbrev pub stepped_in : ActivityRow → CounterRow → ℕ → ℤ → ℤ → ℤ
stepped_in row counter c free value =
    let cleared = clears_in row counter c free in
    if has row.resets c then pos 0
    else ((if cleared then pos 0 else value) +ℤ added_in row free cleared counter.kind)
