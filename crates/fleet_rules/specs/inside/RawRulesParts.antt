-- The fields of the rules as contracts see them. For src/raw_rules.rt.
use Rattle.fleet_rules.specs.RawRules.{RawAirportSeen, RawCounterSeen, RawCurfewSeen, RawRulesSeen}
use Rattle.fleet_rules.specs.declared.raw_rules.RawAirport.TheInside.{Inside as InsideAirport}
use Rattle.fleet_rules.specs.declared.raw_rules.RawCounter.TheInside.{Inside as InsideCounter}
use Rattle.fleet_rules.specs.declared.raw_rules.RawCurfew.TheInside.{Inside as InsideCurfew}
use Rattle.fleet_rules.specs.declared.raw_rules.RawRules.TheInside.{Inside as InsideRules}

-- each field of an airport
abbrev pub airport_seen : InsideAirport → RawAirportSeen
airport_seen p = record {
  name = p.name;
  zone = p.zone;
  turn = p.turn;
}

-- each field of a curfew, with a list for a `Vec`
abbrev pub curfew_seen : InsideCurfew → RawCurfewSeen
curfew_seen c = record {
  airport = c.airport;
  from = c.from;
  to = c.to;
  types = c.types.items;
  starts = c.starts;
  landings = c.landings;
}

-- each field of a counter
abbrev pub counter_seen : InsideCounter → RawCounterSeen
counter_seen c = record {
  name = c.name;
  kind = c.kind;
  limit = c.limit;
  bases = c.bases.items;
  stop = c.stop;
}

-- each kind of rules
abbrev pub rules_seen : InsideRules → RawRulesSeen
rules_seen r = record {
  kinds = r.kinds.items;
  airports = r.airports.items;
  curfews = r.curfews.items;
  counters = r.counters.items;
  bands = r.bands.items;
}
