-- The parts of a rule of local time as a text: names, offsets, and days of the year.
--
-- A part is read from its place on, and says at which place it ends. Behind the end of a text stands byte 0, which no
-- part has.
use Rattle.std.specs.Prelude.{ℕ, pos, ◌+◌, ◌-◌, ◌*◌, ◌-ℤ◌, Bool, true, false, ◌&&◌, ◌||◌, List, slice_index, ◌==◌, nat_le, if◌then◌else◌, Result, Ok}
use Rattle.std.specs.Char.{is_ascii_alphabetic, is_ascii_digit}
use Rattle.tail_text.specs.Bad.{bad}
use Rattle.tail_text.specs.Checks.{look, must}
use Rattle.tail_text.specs.declared.bad.Bad.{Bad}
use Rattle.fleet_rules.specs.declared.zone_parts.Part.{Part}
use Rattle.fleet_rules.specs.declared.zone_parts.OffsetPart.{OffsetPart}
use Rattle.fleet_rules.specs.declared.zone_parts.RulePart.{RulePart}
use Rattle.fleet_rules.specs.declared.zone_parts.TheConstants.{OFFSET_MOST, TIME_MOST}

-- a digit stands there
abbrev pub is_digit_at : List ℕ → ℕ → Bool
is_digit_at s at = is_ascii_digit (slice_index s at)

-- the digit that stands there
abbrev pub digit_at : List ℕ → ℕ → ℕ
digit_at s at = slice_index s at - 48

-- it is one from the least to the most
abbrev pub is_digit_from : ℕ → ℕ → List ℕ → ℕ → Bool
is_digit_from least most s at = is_digit_at s at && (nat_le least (digit_at s at) && nat_le (digit_at s at) most)

-- a number of one or two digits
unfoldable pub short_number_at : List ℕ → ℕ → Result Part Bad
short_number_at s at =
    must (is_digit_at s at) bad (
    if is_digit_at s (at + 1)
    then Ok (record { value = digit_at s at * 10 + digit_at s (at + 1); next = at + 2 })
    else Ok (record { value = digit_at s at; next = at + 1 }))

-- the minutes of an hour, from 00 to 59, behind a colon, and none where no colon stands there
unfoldable pub minutes_behind : List ℕ → ℕ → Result Part Bad
minutes_behind s at =
    if slice_index s at == 58
    then must (is_digit_from 0 5 s (at + 1) && is_digit_at s (at + 2)) bad (
    Ok (record { value = digit_at s (at + 1) * 10 + digit_at s (at + 2); next = at + 3 }))
    else Ok (record { value = 0; next = at })

-- hours, and minutes where they are told, of at most so many minutes in all
unfoldable pub clock_part : ℕ → List ℕ → ℕ → Result Part Bad
clock_part most s at =
    look (short_number_at s at) (λ hours.
    look (minutes_behind s hours.next) (λ minutes.
    must (nat_le (hours.value * 60 + minutes.value) most) bad (
    Ok (record { value = hours.value * 60 + minutes.value; next = minutes.next }))))

-- an offset of at most 14:00 to either side, as the minutes to add to UTC: it is written with `-` east of Greenwich, and
-- with `+` or no sign west of it
unfoldable pub offset_part : List ℕ → ℕ → Result OffsetPart Bad
offset_part s at =
    if slice_index s at == 45
    then look (clock_part OFFSET_MOST s (at + 1)) (λ east. Ok (record { minutes = pos east.value; next = east.next }))
    else look (clock_part OFFSET_MOST s (if slice_index s at == 43 then at + 1 else at)) (λ west.
    Ok (record { minutes = pos 0 -ℤ pos west.value; next = west.next }))

-- a byte that a name may have: a letter, and between `<` and `>` a digit, `+` or `-` too
abbrev pub is_name_mark : Bool → ℕ → Bool
is_name_mark bracketed byte = is_ascii_alphabetic byte || (bracketed && (is_ascii_digit byte || (byte == 43 || byte == 45)))

-- such a byte stands there
abbrev pub is_mark_at : Bool → List ℕ → ℕ → Bool
is_mark_at bracketed s at = is_name_mark bracketed (slice_index s at)

-- the place behind the bytes of a name, as many as there are, of which there are at least three and no more than six count
unfoldable pub marks_end : Bool → List ℕ → ℕ → Result ℕ Bad
marks_end bracketed s at =
    must (is_mark_at bracketed s at && (is_mark_at bracketed s (at + 1) && is_mark_at bracketed s (at + 2))) bad (
    if is_mark_at bracketed s (at + 3)
    then (if is_mark_at bracketed s (at + 4)
    then (if is_mark_at bracketed s (at + 5) then Ok (at + 6) else Ok (at + 5))
    else Ok (at + 4))
    else Ok (at + 3))

-- the place behind the name that stands there, either letters or bytes between `<` and `>`
unfoldable pub name_end : List ℕ → ℕ → Result ℕ Bad
name_end s at =
    if slice_index s at == 60
    then look (marks_end true s (at + 1)) (λ end. must (slice_index s end == 62) bad (Ok (end + 1)))
    else marks_end false s at

-- a point, a week from 1 to 5, a point and a weekday from 0 to 6 stand there
abbrev pub has_rule_days : List ℕ → ℕ → Bool
has_rule_days s at =
    slice_index s at == 46
    && (is_digit_from 1 5 s (at + 1) && (slice_index s (at + 2) == 46 && is_digit_from 0 6 s (at + 3)))

-- the time of day behind a slash, at most 24:00, and 2:00 where no slash stands there
unfoldable pub time_part : List ℕ → ℕ → Result Part Bad
time_part s at = if slice_index s at == 47 then clock_part TIME_MOST s (at + 1) else Ok (record { value = 120; next = at })

-- a rule: `M`, a month from 1 to 12, a week, a weekday, and a time of that day where it is told
unfoldable pub rule_part : List ℕ → ℕ → Result RulePart Bad
rule_part s at =
    must (slice_index s at == 77) bad (
    look (short_number_at s (at + 1)) (λ month.
    must (nat_le 1 month.value && (nat_le month.value 12 && has_rule_days s month.next)) bad (
    look (time_part s (month.next + 4)) (λ time.
    Ok (record {
      rule = record { month = month.value; week = digit_at s (month.next + 1); weekday = digit_at s (month.next + 3); time = pos time.value };
      next = time.next;
    })))))
