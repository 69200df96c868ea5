-- Where a piece is dark. Its beginning is the curfew's first local minute less the offset, and the picture begins with a day,
-- so a moment comes as far behind the beginning as its local minute is behind the curfew's first, both taken into a day. Each
-- remainder is told by how many days are added and taken; what is left are sums.
use Rattle.std.proofs.Common.{◌≡◌, ◌+◌, ◌*◌, ◌-◌, ◌/◌, ◌%◌, ◌<◌, inl, inr, true, false, ℕ, ℤ, pos, negsuc, refl, arith}
use Rattle.std.specs.Prelude.{◌+ℤ◌, ◌-ℤ◌, ◌≤ℤ◌, ◌<ℤ◌, int_lt}
use Rattle.std.specs.Bool.{Decides}
use Rattle.std.specs.Int.{int_rem_euclid}
use Rattle.std.proofs.lemmas.Bool.{cases_Bool}
use Rattle.std.proofs.lemmas.Int.{ints}
use Rattle.tail_book.specs.Curfew.{in_window}
use Rattle.tail_book.specs.Lookup.{start_of}
use Rattle.tail_book.specs.declared.limits.TheConstants.{DAY}
use Rattle.plan_picture.specs.inside.Laws.{IsMinute, PiecesShadeCurfews}

-- a moment, some days later, is some days and a minute of a day
record DayPart (z : ℤ) : Type 0 where
  later : ℕ
  days : ℕ
  minute : ℕ
  same : z +ℤ pos (later * 1440) ≡ pos (days * 1440 + minute)
  rest : int_rem_euclid z DAY ≡ pos minute
  small : minute < 1440

day_part : (z : ℤ) → DayPart z
day_part (pos n) = record { later = 0; days = n / 1440; minute = n % 1440; same = omega (arith, ints); rest = refl; small = omega arith }
day_part (negsuc n) = record {
  later = n / 1440 + 1;
  days = 0;
  minute = 1439 - n % 1440;
  same = omega (arith, ints);
  rest = refl;
  small = omega arith;
}

less : (a b : ℤ) → int_lt a b ≡ true → a <ℤ b
less a b is = grind (arith, ints)

no_less : (a b : ℤ) → int_lt a b ≡ false → b ≤ℤ a
no_less a b is = grind (arith, ints)

-- the four ways in which the minute and the window's end lie to its first minute
day_late : (from to minute behind length : ℤ) → from ≤ℤ minute → from ≤ℤ to → behind ≡ minute -ℤ from → length ≡ to -ℤ from
    → Decides (in_window from to minute) (behind <ℤ length)
day_late from to minute behind length late day is long = (λ holds. grind (arith, ints), λ near. grind (arith, ints))

day_early : (from to minute behind length : ℤ) → pos 0 ≤ℤ minute → to <ℤ pos 1440 → minute <ℤ from → from ≤ℤ to → behind ≡ (minute -ℤ from) +ℤ pos 1440 → length ≡ to -ℤ from
    → Decides (in_window from to minute) (behind <ℤ length)
day_early from to minute behind length least most early day is long = (λ holds. grind (arith, ints), λ near. grind (arith, ints))

night_late : (from to minute behind length : ℤ) → pos 0 ≤ℤ to → minute <ℤ pos 1440 → from ≤ℤ minute → to <ℤ from → behind ≡ minute -ℤ from → length ≡ (to -ℤ from) +ℤ pos 1440
    → Decides (in_window from to minute) (behind <ℤ length)
night_late from to minute behind length least most late night is long = (λ holds. grind (arith, ints), λ near. grind (arith, ints))

night_early : (from to minute behind length : ℤ) → minute <ℤ from → to <ℤ from → behind ≡ (minute -ℤ from) +ℤ pos 1440 → length ≡ (to -ℤ from) +ℤ pos 1440
    → Decides (in_window from to minute) (behind <ℤ length)
night_early from to minute behind length early night is long = (λ holds. grind (arith, ints), λ near. grind (arith, ints))

-- one minute of the day is behind another by their difference, taken into a day
record IsBehind (from minute : ℤ) (behind : ℕ) : Type 0 where
  late : from ≤ℤ minute → pos behind ≡ minute -ℤ from
  early : minute <ℤ from → pos behind ≡ (minute -ℤ from) +ℤ pos 1440

in_window_tested : (from to : ℤ) (minute behind length : ℕ) → IsMinute from → IsMinute to → minute < 1440 → IsBehind from (pos minute) behind → IsBehind from to length
    → Decides (in_window from to (pos minute)) (pos behind <ℤ pos length)
in_window_tested from to minute behind length first last small is long =
    elim (cases_Bool (int_lt (pos minute) from)) [
      | inl early ↦ elim (cases_Bool (int_lt to from)) [
        | inl night ↦ night_early from to (pos minute) (pos behind) (pos length) (less _ _ early) (less _ _ night) (is.early (less _ _ early)) (long.early (less _ _ night))
        | inr day ↦ day_early from to (pos minute) (pos behind) (pos length) (omega (arith, ints)) (omega (arith, ints, last.most)) (less _ _ early) (no_less _ _ day) (is.early (less _ _ early)) (long.late (no_less _ _ day))
      ]
      | inr late ↦ elim (cases_Bool (int_lt to from)) [
        | inl night ↦ night_late from to (pos minute) (pos behind) (pos length) last.least (omega (arith, ints, small)) (no_less _ _ late) (less _ _ night) (is.late (no_less _ _ late)) (long.early (less _ _ night))
        | inr day ↦ day_late from to (pos minute) (pos behind) (pos length) (no_less _ _ late) (no_less _ _ day) (is.late (no_less _ _ late)) (long.late (no_less _ _ day))
      ]
    ]

-- the difference of two minutes of the day, some days later
length_is : (from to : ℤ) (length : DayPart (to -ℤ from)) → IsMinute from → IsMinute to → IsBehind from to length.minute
length_is from to length first last = record {
  late = λ late. omega (arith, ints, late, length.same, length.small, first.least, first.most, last.least, last.most);
  early = λ early. omega (arith, ints, early, length.same, length.small, first.least, first.most, last.least, last.most);
}

-- so it is of a moment and the beginning of a piece
behind_is : (start t offset from : ℤ) (day : DayPart start) (piece : DayPart (from -ℤ offset)) (local : DayPart (t +ℤ offset))
    (behind : DayPart ((t -ℤ (start -ℤ pos day.minute)) -ℤ pos piece.minute)) → IsMinute from → IsBehind from (pos local.minute) behind.minute
behind_is start t offset from day piece local behind first = record {
  late = λ late. omega (arith, ints, late, day.same, piece.same, local.same, local.small, behind.same, behind.small, first.least, first.most);
  early = λ early. omega (arith, ints, early, day.same, piece.same, local.same, local.small, behind.same, behind.small, first.least, first.most);
}

pub window_shaded : PiecesShadeCurfews
window_shaded book curfew stretch t first last clocks =
    let day = day_part (start_of book 0) in
    let piece = day_part (curfew.from -ℤ stretch.offset) in
    let local = day_part (t +ℤ stretch.offset) in
    let behind = day_part ((t -ℤ (start_of book 0 -ℤ pos day.minute)) -ℤ pos piece.minute) in
    let length = day_part (curfew.to -ℤ curfew.from) in
    rw (clocks, local.rest, day.rest, piece.rest, behind.rest, length.rest)
    (in_window_tested curfew.from curfew.to local.minute behind.minute length.minute first last local.small
    (behind_is (start_of book 0) t stretch.offset curfew.from day piece local behind first) (length_is curfew.from curfew.to length first last))
