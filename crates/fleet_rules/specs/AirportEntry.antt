-- The entries of the key `airport`: a name, the minutes from UTC to local time or the rule of it, and the turn in minutes.
use Rattle.std.specs.Prelude.{ℕ, pos, ◌-ℤ◌, [], ◌∷◌, codes, Option, Some, None, Result, Ok, Err}
use Rattle.std.specs.Option.{ok_or}
use Rattle.toml.specs.Data.{Data, Members, as_integer, as_str, get_member}
use Rattle.tail_book.specs.declared.limits.TheConstants.{AIRPORT_LIMIT, DAY, OFFSET_LIMIT}
use Rattle.tail_text.specs.Checks.{look, or_code}
use Rattle.tail_text.specs.declared.codes.TheConstants.{MISSING, ZONE}
use Rattle.fleet_rules.specs.Entries.{Section}
use Rattle.fleet_rules.specs.RawRules.{RawAirportSeen}
use Rattle.fleet_rules.specs.TomlValues.{name_at, number_at, number_within}
use Rattle.fleet_rules.specs.Zone.{zone_of}
use Rattle.fleet_rules.specs.declared.zone_rule.ZoneRule.{ZoneRule}
use Rattle.fleet_rules.specs.declared.zone_rule.ZoneRule.TheVariants.{Fixed}

-- the rule of the minutes that a value says
abbrev pub fixed_of_value : Data → Result ZoneRule ℕ
fixed_of_value value =
    look (number_within (pos 0 -ℤ OFFSET_LIMIT) OFFSET_LIMIT (as_integer value)) (λ minutes.
    Ok (Fixed minutes))

-- the rule that a value writes
abbrev pub zone_of_value : Data → Result ZoneRule ℕ
zone_of_value value =
    look (ok_or (as_str value) ZONE) (λ text.
    or_code ZONE (zone_of text))

-- the rule of local time by an offset or a text, of which exactly one is to be there
abbrev pub zone_by : Option Data → Option Data → Result ZoneRule ℕ
zone_by (Some offset) (Some zone) = Err ZONE
zone_by (Some offset) None = fixed_of_value offset
zone_by None (Some zone) = zone_of_value zone
zone_by None None = Err MISSING

-- the rule of local time of an entry
abbrev pub zone_at : Members → Result ZoneRule ℕ
zone_at table = zone_by (get_member (codes "offset") table) (get_member (codes "zone") table)

-- an airport: its name, the rule of its local time, and the turn in minutes
abbrev pub airport_in : Members → Result RawAirportSeen ℕ
airport_in table =
    look (name_at (codes "name") table) (λ name.
    look (zone_at table) (λ zone.
    look (number_at (codes "turn") (pos 0) DAY table) (λ turn.
    Ok (record { name = name; zone = zone; turn = turn }))))

-- the airports, no more than a book has
abbrev pub airports : Section RawAirportSeen
airports = record {
  key = codes "airport";
  limit = AIRPORT_LIMIT;
  keys = codes "name" ∷ codes "offset" ∷ codes "zone" ∷ codes "turn" ∷ [];
  entry_of = airport_in;
}
