-- The ranges of what the entries of the rules say.
use Rattle.std.specs.Prelude.{pos, ◌-ℤ◌, ◌≡◌, ◌≤◌, true, length, All}
use Rattle.tail_book.specs.Name.{is_name}
use Rattle.tail_book.specs.declared.limits.TheConstants.{AIRPORT_LIMIT, BAND_LIMIT, BASE_LIMIT, COUNTER_LIMIT, CURFEW_LIMIT, DAY, ITEM_LIMIT, STOP_LIMIT, TYPE_LIMIT}
use Rattle.tail_book.specs.Ranges.{IsWithin}
use Rattle.tail_book.specs.inside.Sound.{IsBand, IsKind, IsLimit}
use Rattle.table_records.specs.inside.NameLists.{AreNames}
use Rattle.fleet_rules.specs.RawRules.{RawAirportSeen, RawCurfewSeen, RawCounterSeen, RawRulesSeen}
use Rattle.fleet_rules.specs.inside.Zone.{IsZone}

-- an airport's name is in the grammar, its rule of local time sound, and its turn at most a day
pub record IsRawAirport (p : RawAirportSeen) : Type 0 where
  pub name : is_name p.name ≡ true
  pub zone : IsZone p.zone
  pub turn : IsWithin (pos 0) DAY p.turn

-- a curfew's ends are minutes of the local day, and its names are in the grammar, its types no more than a list has
pub record IsRawCurfew (c : RawCurfewSeen) : Type 0 where
  pub airport : is_name c.airport ≡ true
  pub from : IsWithin (pos 0) (DAY -ℤ pos 1) c.from
  pub to : IsWithin (pos 0) (DAY -ℤ pos 1) c.to
  pub types : AreNames ITEM_LIMIT c.types

-- a counter's names are in the grammar, its bases no more than a counter has, and its limit and its stop are in range
pub record IsRawCounter (c : RawCounterSeen) : Type 0 where
  pub name : is_name c.name ≡ true
  pub limit : IsLimit c.kind c.limit
  pub bases : AreNames BASE_LIMIT c.bases
  pub stop : IsWithin (pos 1) STOP_LIMIT c.stop

-- what holds of every table of rules by itself: its entries are in range, and there are no more of each
-- kind than a book has
pub record AreRawRules (rules : RawRulesSeen) : Type 0 where
  pub kinds : All IsKind rules.kinds
  pub few_kinds : length rules.kinds ≤ TYPE_LIMIT
  pub airports : All IsRawAirport rules.airports
  pub few_airports : length rules.airports ≤ AIRPORT_LIMIT
  pub curfews : All IsRawCurfew rules.curfews
  pub few_curfews : length rules.curfews ≤ CURFEW_LIMIT
  pub counters : All IsRawCounter rules.counters
  pub few_counters : length rules.counters ≤ COUNTER_LIMIT
  pub bands : All IsBand rules.bands
  pub few_bands : length rules.bands ≤ BAND_LIMIT
