-- A moment that is spelled is read as itself: the digits stand where they are looked for, each pair is read as the number that it
-- spells, the date is one that the calendar has, and its days and minutes come to the moment.
use Rattle.std.proofs.Common.{◌≡◌, ◌∙◌, ℕ, ◌+◌, ◌-◌, ◌*◌, ◌/◌, ◌%◌, ◌<◌, ◌≤◌, true, List, ◌++◌, codes, pos, negsuc, Ok, Some, refl, arith, ap, ◌*ℤ◌, ◌+ℤ◌}
use Rattle.std.proofs.lemmas.Bool.Decides.{nat_tests}
use Rattle.std.proofs.lemmas.Int.{ints}
use Rattle.std.specs.Char.{is_ascii_digit}
use Rattle.jiff_core.proofs.SignedLemmas.{signed_arith}
use Rattle.tail_book.specs.declared.limits.TheConstants.{DAY}
use Rattle.tail_text.specs.Clock.{minutes_of}
use Rattle.tail_text.specs.Stamp.{day_number, is_stamp_day, moment_at, stamp_of}
use Rattle.calendar_text.specs.Moment.{day_of_month, day_of_year, month_of, moment_text, two_digits, year_of}
use Rattle.calendar_text.specs.inside.Laws.{MomentsAreReadBack}
use Rattle.calendar_text.proofs.CivilDays.{IsOfStamps, of_stamps}

-- a pair of digits, and the number that it spells
tens_digit : (n : ℕ) → n < 100 → is_ascii_digit (48 + n / 10) ≡ true
tens_digit n small = grind (arith, nat_tests)

ones_digit : (n : ℕ) → is_ascii_digit (48 + n % 10) ≡ true
ones_digit n = grind (arith, nat_tests)

pair : (n : ℕ) → (48 + n / 10 - 48) * 10 + (48 + n % 10 - 48) ≡ n
pair n = omega arith

-- the parts of a stamp, spelled
abbrev spelled : ℕ → ℕ → ℕ → ℕ → ℕ → ℕ → List ℕ
spelled a b m d h i =
    (two_digits a ++ two_digits b ++ codes "-" ++ two_digits m ++ codes "-" ++ two_digits d) ++ codes "T" ++ two_digits h ++ codes ":" ++ two_digits i

-- they are read as what they are
parts_read : (a b m d h i : ℕ) → a < 100 → b < 100 → m < 100 → d < 100 → h < 100 → i < 100
    → stamp_of (spelled a b m d h i) ≡ moment_at (day_number (a * 100 + b) m d) (minutes_of h i)
unfolding two_digits
parts_read a b m d h i sa sb sm sd sh si =
    rw (
      tens_digit a sa,
      ones_digit a,
      tens_digit b sb,
      ones_digit b,
      tens_digit m sm,
      ones_digit m,
      tens_digit d sd,
      ones_digit d,
      tens_digit h sh,
      ones_digit h,
      tens_digit i si,
      ones_digit i,
      pair a,
      pair b,
      pair m,
      pair d,
      pair h,
      pair i,
    ) refl

of_year : (y : ℕ) → y / 100 * 100 + y % 100 ≡ y
of_year y = omega arith

-- a date of the calendar has its day's number
day_is : (day y m d : ℕ) → IsOfStamps day y m d → day_number y m d ≡ Some (pos day)
day_is day y m d of = rw (of.stamp, of.is) refl

-- a stamp's parts are small
record AreSmall (y m d : ℕ) : Type 0 where
  year : y < 10000
  month : m < 100
  day : d < 100

small : (y m d : ℕ) → is_stamp_day y m d ≡ true → AreSmall y m d
small y m d stamp = record { year = grind (arith, nat_tests, stamp); month = grind (arith, nat_tests, stamp); day = grind (arith, nat_tests, stamp) }

minutes_is : (minute : ℕ) → minute < 1440 → minutes_of (minute / 60) (minute % 60) ≡ Some minute
minutes_is minute less = grind (arith, nat_tests)

minute_is : (minute : ℕ) → pos (minute / 1440) *ℤ DAY +ℤ pos (minute % 1440) ≡ pos minute
minute_is minute = omega (arith, signed_arith)

read_pos : (minute : ℕ) → minute ≤ 120968639 → stamp_of (moment_text (pos minute)) ≡ Ok (pos minute)
unfolding moment_text two_digits
read_pos minute most =
    let day : minute / 1440 ≤ 84005 = omega arith in
    let of = of_stamps (minute / 1440) day in
    let e = minute / 1440 + 719468 in
    let few = small (year_of e) (month_of e) (day_of_month (day_of_year e)) of.stamp in
    parts_read (year_of e / 100) (year_of e % 100) (month_of e) (day_of_month (day_of_year e)) (minute % 1440 / 60) (minute % 1440 % 60)
    (omega (arith, few.year)) (omega arith) few.month few.day (omega arith) (omega arith)
    ∙ rw (of_year (year_of e), day_is (minute / 1440) (year_of e) (month_of e) (day_of_month (day_of_year e)) of, minutes_is (minute % 1440) (omega arith)) (ap Ok (minute_is minute))

pub read_back : MomentsAreReadBack
read_back (pos minute) is = read_pos minute (omega (arith, ints, is.most))
read_back (negsuc minute) is = absurd (omega (arith, ints, is.least))
