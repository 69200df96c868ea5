-- The rules as their table says them, with names in place of numbers.
use Rattle.std.specs.Prelude.{ℕ, ℤ, Bool, List}
use Rattle.tail_book.specs.declared.rules.AircraftType.{AircraftType}
use Rattle.tail_book.specs.declared.rules.Band.{Band}
use Rattle.tail_book.specs.declared.rules.CounterKind.{CounterKind}
use Rattle.fleet_rules.specs.declared.zone_rule.ZoneRule.{ZoneRule}

-- an airport: the rule of its local time, and its turn in minutes
pub record RawAirportSeen : Type 0 where
  pub name : List ℕ
  pub zone : ZoneRule
  pub turn : ℤ

-- a curfew: local minutes of the day, and the names of its airport and its types
pub record RawCurfewSeen : Type 0 where
  pub airport : List ℕ
  pub from : ℤ
  pub to : ℤ
  pub types : List (List ℕ)
  pub starts : Bool
  pub landings : Bool

-- a counter: the limit of a days counter in minutes, and the names of its bases
pub record RawCounterSeen : Type 0 where
  pub name : List ℕ
  pub kind : CounterKind
  pub limit : ℤ
  pub bases : List (List ℕ)
  pub stop : ℤ

-- all rules, each kind in the order of its entries
pub record RawRulesSeen : Type 0 where
  pub kinds : List AircraftType
  pub airports : List RawAirportSeen
  pub curfews : List RawCurfewSeen
  pub counters : List RawCounterSeen
  pub bands : List Band
