-- How moments are spelled, `YYYY-MM-DDTHH:MM`, as the tables spell them. Days are counted from 1 March of the year 0 on, so that
-- the leap day is the last of its year. For src/moments.rt.
use Rattle.std.specs.Prelude.{ℕ, ◌+◌, ◌-◌, ◌*◌, ◌/◌, ◌%◌, ℤ, List, [], ◌∷◌, ◌++◌, codes, nat_lt, if◌then◌else◌, unsigned_abs}

-- a number below 100 in two digits
unfoldable pub two_digits : ℕ → List ℕ
two_digits n = (48 + n / 10) ∷ (48 + n % 10) ∷ []

-- the quarters of days that have passed of a day's century, with three of its own: four centuries are 146,097 days, and so a century
-- is as many quarters
abbrev pub quarters_of : ℕ → ℕ
quarters_of day = (4 * day + 3) % 146097 / 4 * 4 + 3

-- the year from March on in which the day lies: a century's year is 1,461 quarters
abbrev pub year_from_march : ℕ → ℕ
year_from_march day = 100 * ((4 * day + 3) / 146097) + quarters_of day / 1461

-- the day of that year, from 0 on 1 March
abbrev pub day_of_year : ℕ → ℕ
day_of_year day = quarters_of day % 1461 / 4

-- the month of that day, from 3 for March to 14 for February: five months from March on are 153 days, and so are the next five
abbrev pub month_from_march : ℕ → ℕ
month_from_march of_year = (5 * of_year + 461) / 153

-- and its day of the month
abbrev pub day_of_month : ℕ → ℕ
day_of_month of_year = (5 * of_year + 461) % 153 / 5 + 1

-- the year and the month of a day: January and February are of the next year
abbrev pub year_of : ℕ → ℕ
year_of day = if nat_lt 12 (month_from_march (day_of_year day)) then year_from_march day + 1 else year_from_march day

abbrev pub month_of : ℕ → ℕ
month_of day = if nat_lt 12 (month_from_march (day_of_year day)) then month_from_march (day_of_year day) - 12 else month_from_march (day_of_year day)

-- the date of a day, as year, month and day
abbrev pub date_text : ℕ → List ℕ
date_text day =
    two_digits (year_of day / 100) ++ two_digits (year_of day % 100) ++ codes "-" ++ two_digits (month_of day)
    ++ codes "-" ++ two_digits (day_of_month (day_of_year day))

-- the time of day of a minute since midnight
abbrev pub clock_text : ℕ → List ℕ
clock_text minute = two_digits (minute / 60) ++ codes ":" ++ two_digits (minute % 60)

-- the date and the time of day of a moment in minutes since 1970-01-01T00:00, which lies 719,468 days behind 1 March of the year 0
unfoldable pub moment_text : ℤ → List ℕ
moment_text moment = date_text (unsigned_abs moment / 1440 + 719468) ++ codes "T" ++ clock_text (unsigned_abs moment % 1440)
