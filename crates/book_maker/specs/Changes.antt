-- The changes of local time that a rule makes, of the years 1969 to 2200.
use Rattle.std.specs.Prelude.{ℕ, ℤ, pos, ◌+◌, ◌-◌, ◌*◌, ◌%◌, ◌+ℤ◌, ◌-ℤ◌, ◌*ℤ◌, List, [], ◌∷◌, ◌==◌, nat_lt, if◌then◌else◌}
use Rattle.std.specs.List.{flat_map, range_with_len}
use Rattle.jiff_core.specs.Calendar.{days_from_civil, days_in_month, weekday_number}
use Rattle.tail_book.specs.declared.limits.TheConstants.{DAY}
use Rattle.tail_book.specs.declared.rules.Change.{Change}
use Rattle.fleet_rules.specs.declared.zone_rule.DayRule.{DayRule}
use Rattle.fleet_rules.specs.declared.zone_rule.ZoneRule.{ZoneRule}
use Rattle.fleet_rules.specs.declared.zone_rule.ZoneRule.TheVariants.{Fixed, Daylight}
use Rattle.book_maker.specs.declared.changes.TheConstants.{FIRST_YEAR, YEARS}

-- how many days behind a day, which has that number from 0 for Monday, the first day is that has this number from 0 for
-- Sunday
unfoldable pub days_until : ℕ → ℕ → ℕ
days_until weekday from = (weekday + 7 - (from + 1) % 7) % 7

-- how many days behind the first of a month of so many days a rule's day is, where its weekday first comes `until` days
-- behind the first: that of the first to the fourth week, or for week 5 the last, which is the fifth where the month has one
unfoldable pub days_behind : ℕ → ℕ → ℕ → ℕ
days_behind until week length =
    if week == 5 then (if nat_lt (until + 28) length then until + 28 else until + 21) else until + 7 * (week - 1)

-- the number of a rule's day in a year: the days from 1970-01-01 to it
unfoldable pub day_of : ℕ → DayRule → ℤ
day_of year rule =
    let first = days_from_civil (pos year) rule.month 1 in
    first +ℤ pos (days_behind (days_until rule.weekday (weekday_number first)) rule.week (days_in_month (pos year) rule.month))

-- the change of a year by a rule, by whose clocks local time is so far from UTC until then, and so far from then on
unfoldable pub change_in : ℕ → DayRule → ℤ → ℤ → Change
change_in year rule before after = record { at = day_of year rule *ℤ DAY +ℤ rule.time -ℤ before; offset = after }

-- the two changes of a year, in order of their months
unfoldable pub changes_in : ℤ → ℤ → DayRule → DayRule → ℕ → List Change
changes_in standard daylight first second year =
    if nat_lt first.month second.month
    then change_in year first standard daylight ∷ change_in year second daylight standard ∷ []
    else change_in year second daylight standard ∷ change_in year first standard daylight ∷ []

-- those of so many years, from the first one on
unfoldable pub changes_for : ℤ → ℤ → DayRule → DayRule → ℕ → List Change
changes_for standard daylight first second years =
    flat_map (changes_in standard daylight first second) (range_with_len FIRST_YEAR years)

-- the changes by a rule: none where the offset is fixed, and otherwise those of all years
abbrev pub changes_of : ZoneRule → List Change
changes_of (Fixed offset) = []
changes_of (Daylight standard daylight first second) = changes_for standard daylight first second YEARS

-- the minutes from UTC to local time before the first change
abbrev pub standard_of : ZoneRule → ℤ
standard_of (Fixed offset) = offset
standard_of (Daylight standard daylight first second) = standard
