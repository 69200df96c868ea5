-- The ranges of what a rule of local time says. For src/zone_text.rt, src/zone_parts.rt and others.
use Rattle.std.specs.Prelude.{ℤ, pos, ◌≡◌, true}
use Rattle.std.specs.Int.{IsInRange}
use Rattle.tail_book.specs.Ranges.{IsWithin}
use Rattle.tail_book.specs.declared.limits.TheConstants.{DAY}
use Rattle.tail_book.specs.inside.Sound.{IsOffset}
use Rattle.fleet_rules.specs.Zone.{are_months_apart}
use Rattle.fleet_rules.specs.declared.zone_rule.DayRule.{DayRule}
use Rattle.fleet_rules.specs.declared.zone_rule.ZoneRule.{ZoneRule}
use Rattle.fleet_rules.specs.declared.zone_rule.ZoneRule.TheVariants.{Fixed, Daylight}

-- a rule's month is of the calendar, its week 1 to 5, its weekday 0 to 6, and its time in the day
pub record IsDayRule (rule : DayRule) : Type 0 where
  pub month : IsInRange 1 12 rule.month
  pub week : IsInRange 1 5 rule.week
  pub weekday : IsInRange 0 6 rule.weekday
  pub time : IsWithin (pos 0) DAY rule.time

-- offsets are at most 14 hours, and months of rules apart
pub record IsDaylight (standard daylight : ℤ) (first second : DayRule) : Type 0 where
  pub standard_in : IsOffset standard
  pub daylight_in : IsOffset daylight
  pub first_sound : IsDayRule first
  pub second_sound : IsDayRule second
  pub apart : are_months_apart first.month second.month ≡ true

-- what holds of every rule
abbrev pub IsZone : ZoneRule → Type 0
IsZone (Fixed offset) = IsOffset offset
IsZone (Daylight standard daylight first second) = IsDaylight standard daylight first second
