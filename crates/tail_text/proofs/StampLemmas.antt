-- The days of the years 1970 to 2199 are those from 0 to 84005: each year begins where the one before it ends,
-- so a day of such a year comes no sooner than 1970 begins, and before 2200 does.
use Rattle.std.proofs.Common.{◌≡◌, ◌≤◌, ◌≤ℤ◌, ◌+◌, ℕ, ℤ, pos, Bool, true, false, Some, None, refl, arith}
use Rattle.std.proofs.lemmas.Bool.{and_parts, leb-true}
use Rattle.std.proofs.lemmas.Int.{by_lt_z}
use Rattle.std.specs.Prelude.{IfSome, if◌then◌else◌, nat_le, ◌&&◌}
use Rattle.jiff_core.specs.Calendar.{IsBetween, IsCivilDate, day_count, days_in_month, days_in_year, days_from_civil}
use Rattle.jiff_core.proofs.CalendarLemmas.{day_count-day_of_year, day_count-epoch, day_count-later_year, day_of_year_bound, days_from_civil-day_count}
use Rattle.jiff_core.proofs.MarchLemmas.{day_count-early}
use Rattle.jiff_core.proofs.SignedLemmas.{signed_arith}
use Rattle.tail_text.specs.Stamp.{day_number, is_stamp_day}

-- the days before the year 2200
day_count-2200 : day_count (pos 2200) 1 1 ≡ 4_455_959
day_count-2200 = day_count-early (pos 2200) 12199 1 1 refl (omega arith) (omega arith) (omega arith)

-- no year from 1970 on begins before it
year_begins : (y : ℤ) → pos 1970 ≤ℤ y → 4_371_953 ≤ day_count y 1 1
year_begins y h =
    by_lt_z (pos 1970) y
    (λ later. omega (arith, signed_arith, day_count-epoch, day_count-later_year (pos 1970) y (omega (arith, signed_arith)) later))
    (λ no_later. let same : y ≡ pos 1970 = omega (arith, signed_arith) in rw same (omega (arith, day_count-epoch)))

-- a year from 1970 to 2199 ends before 2200 begins
year_ends : (y : ℤ) → pos 1970 ≤ℤ y → y ≤ℤ pos 2199 → day_count y 1 1 + days_in_year y ≤ 4_455_959
year_ends y first last =
    omega (arith, day_count-2200, day_count-later_year y (pos 2200) (omega (arith, signed_arith)) (omega (arith, signed_arith)))

-- a day of the years 1970 to 2199 has a number from 0 to 84005
days_from_civil_range : (y : ℤ) (m d : ℕ) → pos 1970 ≤ℤ y → y ≤ℤ pos 2199 → IsCivilDate y m d → IsBetween (pos 0) (pos 84_005) (days_from_civil y m d)
days_from_civil_range y m d first last date =
    omega (arith, signed_arith, days_from_civil-day_count y m d, year_begins y first, year_ends y first last, day_of_year_bound y m d date, day_count-day_of_year y m d date.2.0)

-- and so has a day that the tests of a stamp let pass
stamp_day_range : (y m d : ℕ) → is_stamp_day y m d ≡ true → IsBetween (pos 0) (pos 84_005) (days_from_civil (pos y) m d)
stamp_day_range y m d passed =
    let parts = and_parts (nat_le 1970 y && nat_le y 2199) ((nat_le 1 m && nat_le m 12) && (nat_le 1 d && nat_le d (days_in_month (pos y) m))) passed in
    let date = and_parts (nat_le 1 m && nat_le m 12) (nat_le 1 d && nat_le d (days_in_month (pos y) m)) parts.1 in
    let years = and_parts (nat_le 1970 y) (nat_le y 2199) parts.0 in
    let months = and_parts (nat_le 1 m) (nat_le m 12) date.0 in
    let days = and_parts (nat_le 1 d) (nat_le d (days_in_month (pos y) m)) date.1 in
    let first = leb-true 1970 y years.0 in
    let last = leb-true y 2199 years.1 in
    let date_is : IsCivilDate (pos y) m d = (
      (omega (arith, signed_arith), omega (arith, signed_arith, last)),
      (leb-true 1 m months.0, leb-true m 12 months.1),
      (leb-true 1 d days.0, leb-true d (days_in_month (pos y) m) days.1),
    ) in
    days_from_civil_range (pos y) m d (omega (arith, signed_arith, first)) (omega (arith, signed_arith, last)) date_is

-- what a passed test tells of the day
if_passed : (test : Bool) (day : ℤ) → (test ≡ true → IsBetween (pos 0) (pos 84_005) day) → IfSome (if test then Some day else None) (IsBetween (pos 0) (pos 84_005))
if_passed true day range = range refl
if_passed false day range = tt

-- the day of a stamp is one of those from 0 to 84005
pub day_number_range : (y m d : ℕ) → IfSome (day_number y m d) (IsBetween (pos 0) (pos 84_005))
day_number_range y m d = if_passed (is_stamp_day y m d) (days_from_civil (pos y) m d) (stamp_day_range y m d)
