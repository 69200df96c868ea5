-- The date of a day, by divisions, is the one that the calendar has. The days before a year that begins in March, and those before
-- the day in it, are all days before it; so the date has as many days before it as the day says. In 400 years there are 146,097
-- days, by which the count from the year -10000 is shifted to that from the year 0.
use Rattle.std.proofs.Common.{◌≡◌, ℕ, suc, ◌+◌, ◌-◌, ◌<◌, ◌≤◌, inl, inr, true, nat_lt, arith, pos}
use Rattle.std.proofs.lemmas.Bool.{cases_Bool}
use Rattle.std.proofs.lemmas.Bool.Decides.{nat_tests}
use Rattle.jiff_core.specs.Calendar.{day_count, days_from_civil, days_in_month}
use Rattle.jiff_core.specs.March.{march_days}
use Rattle.jiff_core.proofs.CalendarLemmas.{days_from_civil-day_count}
use Rattle.jiff_core.proofs.MarchLemmas.{day_count-early, day_count-late, day_in_early_month, day_in_month, leap_day, march_days-suc, month_and_day}
use Rattle.jiff_core.proofs.SignedLemmas.{signed_arith}
use Rattle.tail_text.specs.Stamp.{is_stamp_day}
use Rattle.calendar_text.specs.Moment.{day_of_month, day_of_year, month_from_march, month_of, year_from_march, year_of}

-- a day is that of its year
parts : (e : ℕ) → march_days (year_from_march e) + day_of_year e ≡ e
parts e = omega arith

-- it comes before the next year
before_next : (e : ℕ) → e < march_days (suc (year_from_march e))
before_next e = omega arith

of_year_small : (e : ℕ) → day_of_year e < 366
of_year_small e = omega arith

shift : (y : ℕ) → march_days (y + 10000) ≡ march_days y + 3652425
shift y = omega arith

next : (y : ℕ) → y + 1 ≡ suc y
next y = omega arith

-- the calendar's numbers of a day: its days before 1970 are those that it has from the year -10000 on, less those of 1970
of_count : (day y m d : ℕ) → day_count (pos y) m d ≡ day + 4371953 → days_from_civil (pos y) m d ≡ pos day
of_count day y m d count = omega (arith, signed_arith, days_from_civil-day_count (pos y) m d, count)

module _ (e : ℕ) where
  -- from March to December
  late : month_from_march (day_of_year e) ≤ 12 → day_count (pos (year_from_march e)) (month_from_march (day_of_year e)) (day_of_month (day_of_year e)) ≡ e + 3652485
  late h =
      let count = day_count-late (pos (year_from_march e)) (year_from_march e + 10000) (month_from_march (day_of_year e)) (day_of_month (day_of_year e)) (omega (arith, signed_arith)) (omega arith) h (omega arith) in
      omega (arith, count, shift (year_from_march e), parts e, month_and_day (day_of_year e) (of_year_small e))

  -- January and February
  early : 12 < month_from_march (day_of_year e)
      → day_count (pos (year_from_march e + 1)) (month_from_march (day_of_year e) - 12) (day_of_month (day_of_year e)) ≡ e + 3652485
  early h =
      let back : month_from_march (day_of_year e) - 12 + 12 ≡ month_from_march (day_of_year e) = omega (arith, h) in
      let high : month_from_march (day_of_year e) ≤ 14 = omega (arith, of_year_small e) in
      let count = day_count-early (pos (year_from_march e + 1)) (year_from_march e + 10000) (month_from_march (day_of_year e) - 12) (day_of_month (day_of_year e)) (omega (arith, signed_arith)) (omega (arith, h)) (omega (arith, high)) (omega arith) in
      omega (arith, rw back at count, shift (year_from_march e), parts e, month_and_day (day_of_year e) (of_year_small e))

  -- the day is no later than the last of February
  in_year : day_of_year e < 365 + leap_day (pos (year_from_march e + 1))
  in_year = rw (next (year_from_march e)) (omega (arith, parts e, before_next e, march_days-suc (year_from_march e)))

-- a day that a stamp may have
pub record IsOfStamps (day y m d : ℕ) : Type 0 where
  pub stamp : is_stamp_day y m d ≡ true
  pub is : days_from_civil (pos y) m d ≡ pos day

stamp_day : (y m d : ℕ) → 1970 ≤ y → y ≤ 2199 → 1 ≤ m → m ≤ 12 → 1 ≤ d → d ≤ days_in_month (pos y) m → is_stamp_day y m d ≡ true
stamp_day y m d first last january december one end = grind (arith, nat_tests)

module _ (day : ℕ) (known : day ≤ 84005) where
  abbrev pub e : ℕ
  e = day + 719468

  of_late : month_from_march (day_of_year e) ≤ 12 → IsOfStamps day (year_from_march e) (month_from_march (day_of_year e)) (day_of_month (day_of_year e))
  of_late h = record {
    stamp = stamp_day (year_from_march e) (month_from_march (day_of_year e)) (day_of_month (day_of_year e))
        (omega (arith, parts e, h)) (omega (arith, parts e, h)) (omega arith) h (omega arith) (day_in_month (pos (year_from_march e)) (day_of_year e) h);
    is = of_count day (year_from_march e) (month_from_march (day_of_year e)) (day_of_month (day_of_year e)) (omega (arith, late e h));
  }

  of_early : 12 < month_from_march (day_of_year e) → IsOfStamps day (year_from_march e + 1) (month_from_march (day_of_year e) - 12) (day_of_month (day_of_year e))
  of_early h = record {
    stamp = stamp_day (year_from_march e + 1) (month_from_march (day_of_year e) - 12) (day_of_month (day_of_year e))
        (omega (arith, parts e, h)) (omega (arith, parts e, h, of_year_small e)) (omega (arith, h)) (omega (arith, of_year_small e)) (omega arith)
        (day_in_early_month (pos (year_from_march e + 1)) (day_of_year e) h (in_year e));
    is = of_count day (year_from_march e + 1) (month_from_march (day_of_year e) - 12) (day_of_month (day_of_year e)) (omega (arith, early e h));
  }

  pub of_stamps : IsOfStamps day (year_of e) (month_of e) (day_of_month (day_of_year e))
  of_stamps = elim (cases_Bool (nat_lt 12 (month_from_march (day_of_year e)))) [
    | inl more ↦ rw more (of_early (grind (arith, nat_tests, more)))
    | inr none ↦ rw none (of_late (grind (arith, nat_tests, none)))
  ]
