-- The changes of an airport are sound: offsets are within 14 hours, and moments rise.
--
-- Months have at least 28 days, so where a month is at least two behind another, its first day comes at least 56 days
-- later, within a year and over its end. A rule's day comes at most 34 days behind the first of its month, and times of day
-- and offsets move a moment by less than four days. So of two changes that follow each other the later one comes later.
use Rattle.std.proofs.Common.{◌≡◌, ◌≤◌, ◌+◌, ◌-◌, ◌*◌, ℕ, ℤ, zero, suc, pos, true, false, List, [], ◌∷◌, ◌++◌, Ok, refl, inl, inr, arith, nat_lt, ◌⊎◌}
use Rattle.std.specs.Prelude.{All, AllPairs, ⊤, ◌+ℤ◌, ◌-ℤ◌, ◌*ℤ◌, ◌≤ℤ◌, ◌<ℤ◌}
use Rattle.std.specs.List.{flat_map, range_with_len}
use Rattle.std.proofs.lemmas.Int.{ints}
use Rattle.std.proofs.lemmas.Bool.Decides.{nat_tests}
use Rattle.std.proofs.lemmas.List.Elements.{All-cons, All-nil}
use Rattle.std.proofs.lemmas.List.Kept.{AllPairs-cons}
use Rattle.std.proofs.Math.Numerals.{add-one}
use Rattle.tail_book.proofs.Rows.{rows_more}
use Rattle.jiff_core.specs.Calendar.{days_from_civil, days_in_month, days_of_months, weekday_number}
use Rattle.jiff_core.proofs.CalendarLemmas.{days_from_civil-day_count, day_count-day_of_year, day_count-next_year, days_in_month_bounds, days_of_months-zero, days_of_months_all, days_of_months_more}
use Rattle.jiff_core.proofs.SignedLemmas.{signed_arith}
use Rattle.tail_book.specs.Seen.{AirportSeen}
use Rattle.tail_book.specs.declared.rules.Change.{Change}
use Rattle.tail_book.specs.inside.Sound.{IsAirport, IsOffset}
use Rattle.fleet_rules.specs.RawRules.{RawAirportSeen}
use Rattle.fleet_rules.specs.Zone.{are_months_apart}
use Rattle.fleet_rules.specs.inside.RawRules.{IsRawAirport}
use Rattle.fleet_rules.specs.inside.Zone.{IsDayRule, IsZone}
use Rattle.fleet_rules.specs.declared.zone_rule.DayRule.{DayRule}
use Rattle.fleet_rules.specs.declared.zone_rule.ZoneRule.{ZoneRule}
use Rattle.fleet_rules.specs.declared.zone_rule.ZoneRule.TheVariants.{Fixed, Daylight}
use Rattle.book_maker.specs.Changes.{change_in, changes_for, changes_in, changes_of, day_of, days_behind, days_until, standard_of}
use Rattle.book_maker.specs.RulesFound.{airport_in}

-- k months have at least 28 days each
months_long : (y : ℤ) (m k later : ℕ) → later ≡ m + k → days_of_months y m + 28 * k ≤ days_of_months y later
months_long y m zero later e =
    let same : later ≡ m = omega (arith, e) in
    rw same (omega arith)
months_long y m (suc k) later e =
    let before : later - 1 ≡ m + k = omega (arith, e) in
    let one_more = rw before at (days_of_months_more y later (omega (arith, e))) in
    omega (arith, months_long y m k (m + k) refl, one_more, (days_in_month_bounds y later).1)

-- months of a year that are at least two apart
firsts_apart : (y : ℤ) (m later : ℕ) → 1 ≤ m → m + 2 ≤ later → (days_from_civil y m 1 +ℤ pos 56) ≤ℤ days_from_civil y later 1
firsts_apart y m later low apart =
    omega (
      arith,
      signed_arith,
      days_from_civil-day_count y m 1,
      days_from_civil-day_count y later 1,
      day_count-day_of_year y m 1 (omega arith),
      day_count-day_of_year y later 1 (omega arith),
      months_long y (m - 1) (later - m) (later - 1) (omega (arith, low, apart)),
      low,
      apart,
    )

-- and of a year and the next
firsts_apart_over : (y next : ℤ) (m later : ℕ) → pos 0 ≤ℤ y → next ≡ y +ℤ pos 1 → 1 ≤ m → 1 ≤ later → later ≤ 12 → later ≤ m + 10
    → (days_from_civil y later 1 +ℤ pos 56) ≤ℤ days_from_civil next m 1
firsts_apart_over y next m later positive is low low_later high apart =
    omega (
      arith,
      signed_arith,
      days_from_civil-day_count y later 1,
      days_from_civil-day_count next m 1,
      day_count-day_of_year y later 1 (omega arith),
      day_count-day_of_year next m 1 (omega arith),
      day_count-next_year y next (omega (arith, signed_arith, positive)) is,
      days_of_months_all y,
      days_of_months-zero next,
      months_long y (later - 1) (13 - later) 12 (omega (arith, low_later, high)),
      months_long next 0 (m - 1) (m - 1) (omega arith),
      low,
      low_later,
      high,
      apart,
    )

until_bound : (weekday from : ℕ) → days_until weekday from ≤ 6
unfolding days_until
until_bound weekday from = omega arith

behind_bound : (until week length : ℕ) → until ≤ 6 → week ≤ 5 → days_behind until week length ≤ 34
unfolding days_behind
behind_bound until week length few low = grind (arith, nat_tests)

-- a rule's day is at most 34 days behind the first of its month
day_within : (year : ℕ) (rule : DayRule) → IsDayRule rule
    → (days_from_civil (pos year) rule.month 1 ≤ℤ day_of year rule) × (day_of year rule ≤ℤ (days_from_civil (pos year) rule.month 1 +ℤ pos 34))
unfolding day_of
day_within year rule sound =
    let first = days_from_civil (pos year) rule.month 1 in
    let few = behind_bound (days_until rule.weekday (weekday_number first)) rule.week (days_in_month (pos year) rule.month) (until_bound rule.weekday (weekday_number first)) sound.week.1 in
    (omega (arith, ints), omega (arith, ints, few))

-- days that are far apart make moments that come one after the other
moments_apart : (one other time_one time_other offset_one offset_other : ℤ) → (one +ℤ pos 22) ≤ℤ other → time_one ≤ℤ pos 1440 → pos 0 ≤ℤ time_other
    → (pos 0 -ℤ pos 840) ≤ℤ offset_one → offset_other ≤ℤ pos 840
    → (one *ℤ pos 1440 +ℤ time_one -ℤ offset_one) <ℤ (other *ℤ pos 1440 +ℤ time_other -ℤ offset_other)
moments_apart one other time_one time_other offset_one offset_other far late early west east = omega (arith, ints, far, late, early, west, east)

-- the changes of a year, by the rule of its earlier month and that of its later one
module _ (a b : DayRule) (p q r s : ℤ) (a_sound : IsDayRule a) (b_sound : IsDayRule b) (p_in : IsOffset p) (r_in : IsOffset r)
    (later : a.month + 2 ≤ b.month) (not_over : b.month ≤ a.month + 10) where
  within_year : (year : ℕ) → (change_in year a p q).at <ℤ (change_in year b r s).at
  unfolding change_in
  within_year year =
      let far = firsts_apart (pos year) a.month b.month a_sound.month.0 later in
      let one = day_within year a a_sound in
      let other = day_within year b b_sound in
      moments_apart (day_of year a) (day_of year b) a.time b.time p r (omega (arith, ints, far, one.1, other.0)) a_sound.time.most b_sound.time.least p_in.least r_in.most

  over_year : (year : ℕ) → (change_in year b r s).at <ℤ (change_in (year + 1) a p q).at
  unfolding change_in
  over_year year =
      let far = firsts_apart_over (pos year) (pos (year + 1)) a.month b.month (omega (arith, ints)) (omega (arith, ints)) a_sound.month.0 b_sound.month.0 b_sound.month.1 not_over in
      let one = day_within year b b_sound in
      let other = day_within (year + 1) a a_sound in
      moments_apart (day_of year b) (day_of (year + 1) a) b.time a.time r p (omega (arith, ints, far, one.1, other.0)) b_sound.time.most a_sound.time.least r_in.least p_in.most

  -- from a moment on, each change comes later than the one before it
  abbrev IsRisingFrom : ℤ → List Change → Type 0
  IsRisingFrom low [] = ⊤
  IsRisingFrom low (c ∷ cs) = (low <ℤ c.at) × IsRisingFrom c.at cs

  years_rise : (of_year : ℕ → List Change) → ((year : ℕ) → of_year year ≡ change_in year a p q ∷ change_in year b r s ∷ []) → (year n : ℕ) (low : ℤ) → low <ℤ (change_in year a p q).at
      → IsRisingFrom low (flat_map of_year (range_with_len year n))
  years_rise of_year is year zero low h = tt
  years_rise of_year is year (suc n) low h = rw (is year) (h, (within_year year, years_rise of_year is (year + 1) n (change_in year b r s).at (over_year year)))

  rising_above : (low from : ℤ) (cs : List Change) → low ≤ℤ from → IsRisingFrom from cs → All (λ c. low <ℤ c.at) cs
  rising_above low from [] h rising = All-nil (λ c. low <ℤ c.at)
  rising_above low from (c ∷ cs) h rising =
      All-cons (λ c. low <ℤ c.at) c cs (omega (arith, ints, h, rising.0)) (rising_above low c.at cs (omega (arith, ints, h, rising.0)) rising.1)

  rising_pairs : (low : ℤ) (cs : List Change) → IsRisingFrom low cs → AllPairs (λ (x y : Change). x.at <ℤ y.at) cs
  rising_pairs low [] rising = λ i j d less inside. absurd (omega (arith, inside))
  rising_pairs low (c ∷ cs) rising =
      AllPairs-cons (λ (x y : Change). x.at <ℤ y.at) c cs (rising_above c.at c.at cs (omega (arith, ints)) rising.1) (rising_pairs c.at cs rising.1)

  pub years_in_order : (of_year : ℕ → List Change) → ((year : ℕ) → of_year year ≡ change_in year a p q ∷ change_in year b r s ∷ []) → (year n : ℕ)
      → AllPairs (λ (x y : Change). x.at <ℤ y.at) (flat_map of_year (range_with_len year n))
  years_in_order of_year is year n =
      rising_pairs ((change_in year a p q).at -ℤ pos 1) _ (years_rise of_year is year n ((change_in year a p q).at -ℤ pos 1) (omega (arith, ints)))

-- offsets are those of the rule
offsets_sound : (one other : ℕ → Change) (of_year : ℕ → List Change) → ((year : ℕ) → of_year year ≡ one year ∷ other year ∷ [])
    → ((year : ℕ) → IsOffset (one year).offset) → ((year : ℕ) → IsOffset (other year).offset) → (year n : ℕ)
    → All (λ c. IsOffset c.offset) (flat_map of_year (range_with_len year n))
offsets_sound one other of_year is one_in other_in year zero = All-nil (λ c. IsOffset c.offset)
offsets_sound one other of_year is one_in other_in year (suc n) =
    rw (is year) (All-cons (λ c. IsOffset c.offset) (one year) (other year ∷ flat_map of_year (range_with_len (year + 1) n)) (one_in year)
    (All-cons (λ c. IsOffset c.offset) (other year) _ (other_in year) (offsets_sound one other of_year is one_in other_in (year + 1) n)))

-- the changes of one more year stand last
pub changes_for-more : (standard daylight : ℤ) (first second : DayRule) (n : ℕ)
    → changes_for standard daylight first second (n + 1) ≡ changes_for standard daylight first second n ++ changes_in standard daylight first second (1969 + n)
unfolding changes_for
changes_for-more standard daylight first second n = rw (add-one n) (rows_more (changes_in standard daylight first second) 1969 n (1969 + n) (omega arith))

-- the order of the two months
abbrev InOrder : ℕ → ℕ → Type 0
InOrder m n = (nat_lt m n ≡ true) × (m + 2 ≤ n) × (n ≤ m + 10)

abbrev InTurn : ℕ → ℕ → Type 0
InTurn m n = (nat_lt m n ≡ false) × (n + 2 ≤ m) × (m ≤ n + 10)

order_of_months : (m n : ℕ) → are_months_apart m n ≡ true → InOrder m n ⊎ InTurn m n
order_of_months m n e = grind (arith, nat_tests)

-- a year's changes in the order of its months
module _ (standard daylight : ℤ) (first second : DayRule) where
  pub first_sooner : nat_lt first.month second.month ≡ true → (year : ℕ)
      → changes_in standard daylight first second year ≡ change_in year first standard daylight ∷ change_in year second daylight standard ∷ []
  unfolding changes_in
  first_sooner e year = rw e refl

  pub second_sooner : nat_lt first.month second.month ≡ false → (year : ℕ)
      → changes_in standard daylight first second year ≡ change_in year second daylight standard ∷ change_in year first standard daylight ∷ []
  unfolding changes_in
  second_sooner e year = rw e refl

  offset_after_change : (year : ℕ) (rule : DayRule) (before after : ℤ) → IsOffset after → IsOffset (change_in year rule before after).offset
  unfolding change_in
  offset_after_change year rule before after h = h

zone_changes_in : (zone : ZoneRule) → IsZone zone → All (λ c. IsOffset c.offset) (changes_of zone)
unfolding changes_for
zone_changes_in (Fixed offset) h = All-nil (λ c. IsOffset c.offset)
zone_changes_in (Daylight standard daylight first second) h =
    elim (order_of_months first.month second.month h.apart) [
      | inl o ↦ offsets_sound (λ year. change_in year first standard daylight) (λ year. change_in year second daylight standard) _ (first_sooner standard daylight first second o.0)
          (λ year. offset_after_change standard daylight first second year first standard daylight h.daylight_in) (λ year. offset_after_change standard daylight first second year second daylight standard h.standard_in) 1969 232
      | inr o ↦ offsets_sound (λ year. change_in year second daylight standard) (λ year. change_in year first standard daylight) _ (second_sooner standard daylight first second o.0)
          (λ year. offset_after_change standard daylight first second year second daylight standard h.standard_in) (λ year. offset_after_change standard daylight first second year first standard daylight h.daylight_in) 1969 232
    ]

zone_changes_rise : (zone : ZoneRule) → IsZone zone → AllPairs (λ (x y : Change). x.at <ℤ y.at) (changes_of zone)
unfolding changes_for
zone_changes_rise (Fixed offset) h = λ i j d less inside. absurd (omega (arith, inside))
zone_changes_rise (Daylight standard daylight first second) h =
    elim (order_of_months first.month second.month h.apart) [
      | inl o ↦ years_in_order first second standard daylight daylight standard h.first_sound h.second_sound h.standard_in h.daylight_in o.1 o.2 _ (first_sooner standard daylight first second o.0) 1969 232
      | inr o ↦ years_in_order second first daylight standard standard daylight h.second_sound h.first_sound h.daylight_in h.standard_in o.1 o.2 _ (second_sooner standard daylight first second o.0) 1969 232
    ]

zone_standard_in : (zone : ZoneRule) → IsZone zone → IsOffset (standard_of zone)
zone_standard_in (Fixed offset) h = h
zone_standard_in (Daylight standard daylight first second) h = h.standard_in

taken : (raw : RawAirportSeen) (p : AirportSeen) → airport_in raw ≡ Ok p
    → record { name = raw.name; offset = standard_of raw.zone; changes = changes_of raw.zone; turn = raw.turn } ≡ p
taken raw p e = cc e

-- an airport is sound with the changes of its rule
pub airport_sound : (raw : RawAirportSeen) (p : AirportSeen) → IsRawAirport raw → airport_in raw ≡ Ok p → IsAirport p
airport_sound raw p sound e =
    rw (← taken raw p e) (record {
      name = sound.name;
      offset = zone_standard_in raw.zone sound.zone;
      turn = sound.turn;
      changes = zone_changes_in raw.zone sound.zone;
      rising = zone_changes_rise raw.zone sound.zone;
    })

pub airport_named : (raw : RawAirportSeen) (p : AirportSeen) → airport_in raw ≡ Ok p → p.name ≡ raw.name
airport_named raw p e = rw (← taken raw p e) refl
