-- Rules of local time as texts: a name and an offset, and where there is daylight time a second name, its offset where
-- that is not an hour more, and the two days of the year on which the clocks change. For src/zone_text.rt.
use Rattle.std.specs.Prelude.{ℕ, ℤ, pos, ◌+◌, ◌+ℤ◌, Bool, ◌&&◌, ◌||◌, List, length, slice_index, ◌==◌, nat_le, if◌then◌else◌, Result, Ok}
use Rattle.tail_book.specs.declared.limits.TheConstants.{OFFSET_LIMIT}
use Rattle.tail_book.specs.Numbers.{int_le}
use Rattle.tail_text.specs.Bad.{bad}
use Rattle.tail_text.specs.Checks.{look, must}
use Rattle.tail_text.specs.declared.bad.Bad.{Bad}
use Rattle.fleet_rules.specs.ZoneParts.{name_end, offset_part, rule_part}
use Rattle.fleet_rules.specs.declared.zone_parts.OffsetPart.{OffsetPart}
use Rattle.fleet_rules.specs.declared.zone_parts.RulePart.{RulePart}
use Rattle.fleet_rules.specs.declared.zone_rule.ZoneRule.{ZoneRule}
use Rattle.fleet_rules.specs.declared.zone_rule.ZoneRule.TheVariants.{Fixed, Daylight}

-- the months are neither equal nor neighbours, as December and January are too
abbrev pub are_months_apart : ℕ → ℕ → Bool
are_months_apart a b = (nat_le (a + 2) b && nat_le b (a + 10)) || (nat_le (b + 2) a && nat_le a (b + 10))

-- the offset of daylight time, which is an hour more than that of standard time where a comma stands in its place
unfoldable pub daylight_part : ℤ → List ℕ → ℕ → Result OffsetPart Bad
daylight_part standard s at =
    if slice_index s at == 44
    then must (int_le (standard +ℤ pos 60) OFFSET_LIMIT) bad (Ok (record { minutes = standard +ℤ pos 60; next = at }))
    else offset_part s at

-- a comma and a rule
unfoldable pub next_rule : List ℕ → ℕ → Result RulePart Bad
next_rule s at = must (slice_index s at == 44) bad (rule_part s (at + 1))

-- the rest of a text with daylight time: the second name, its offset and the two rules, whose months are apart
unfoldable pub daylight_rule : ℤ → List ℕ → ℕ → Result ZoneRule Bad
daylight_rule standard s at =
    look (name_end s at) (λ name_ends.
    look (daylight_part standard s name_ends) (λ daylight.
    look (next_rule s daylight.next) (λ first.
    look (next_rule s first.next) (λ second.
    must (second.next == length s && are_months_apart first.rule.month second.rule.month) bad (
    Ok (Daylight standard daylight.minutes first.rule second.rule))))))

-- the rule that the text writes
unfoldable pub zone_of : List ℕ → Result ZoneRule Bad
zone_of s =
    look (name_end s 0) (λ name_ends.
    look (offset_part s name_ends) (λ standard.
    if standard.next == length s then Ok (Fixed standard.minutes) else daylight_rule standard.minutes s standard.next))
