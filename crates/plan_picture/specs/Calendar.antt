-- Moments as a planner reads them: days of the Gregorian calendar, hours and minutes, in UTC.
use Rattle.std.specs.Prelude.{ℕ, ◌+◌, ◌-◌, ◌*◌, ◌/◌, ◌%◌, List, ◌++◌, codes, decimal, nat_lt, if◌then◌else◌}

-- a number below 100 in two digits
abbrev pub two_digits : ℕ → List ℕ
two_digits n = decimal (n / 10) ++ decimal (n % 10)

-- the day of its era: of 400 years, which are 146,097 days, from 0000-03-01 on, which is 719,468 days before 1970-01-01
abbrev pub day_of_era : ℕ → ℕ
day_of_era day = (day + 719468) % 146097

-- the year of the era that a day of it lies in, counted from March: four years are 1,461 days, a century is a day short
-- of 25 such spans, and the era has one day more than four centuries
abbrev pub year_of_era : ℕ → ℕ
year_of_era e = (((e - e / 1460) + e / 36524) - e / 146096) / 365

-- the day of that year, from 0 on 1 March
abbrev pub day_of_year : ℕ → ℕ
day_of_year e = e - ((365 * year_of_era e + year_of_era e / 4) - year_of_era e / 100)

-- the month of that year, from 0 for March: five months from March on are 153 days, and so are the next five
abbrev pub month_from_march : ℕ → ℕ
month_from_march d = (5 * d + 2) / 153

-- the year, the month and the day of the month
abbrev pub year_of : ℕ → ℕ
year_of day =
    ((day + 719468) / 146097) * 400 + year_of_era (day_of_era day)
    + (if nat_lt (month_from_march (day_of_year (day_of_era day))) 10 then 0 else 1)

abbrev pub month_in_year : ℕ → ℕ
month_in_year m = if nat_lt m 10 then m + 3 else m - 9

abbrev pub day_in_month : ℕ → ℕ
day_in_month d = (d - (153 * month_from_march d + 2) / 5) + 1

-- the date of a day, counted from 1970-01-01, as year, month and day
abbrev pub date_text : ℕ → List ℕ
date_text day =
    decimal (year_of day) ++ codes "-" ++ two_digits (month_in_year (month_from_march (day_of_year (day_of_era day))))
    ++ codes "-" ++ two_digits (day_in_month (day_of_year (day_of_era day)))

-- the date and the time of day of a minute, counted from 1970-01-01T00:00
abbrev pub moment_text : ℕ → List ℕ
moment_text minute =
    date_text (minute / 1440) ++ codes " " ++ two_digits ((minute % 1440) / 60) ++ codes ":" ++ two_digits (minute % 60)
