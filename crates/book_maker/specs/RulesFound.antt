-- The entries of the rules, with numbers in place of the names that they use. The first name that nothing has, in this
-- order, is code 12.
use Rattle.std.specs.Prelude.{ℕ, ◌+◌, List, length, map, None, Some, Result, Ok}
use Rattle.tail_book.specs.Seen.{AirportSeen, CounterSeen, CurfewSeen, RulesSeen}
use Rattle.tail_text.specs.Checks.{look}
use Rattle.tail_text.specs.declared.refusal.Refusal.{Refusal}
use Rattle.tail_text.specs.declared.refusal.Table.TheVariants.{Rules}
use Rattle.fleet_rules.specs.RawRules.{RawAirportSeen, RawCounterSeen, RawCurfewSeen, RawRulesSeen}
use Rattle.book_maker.specs.Changes.{changes_of, standard_of}
use Rattle.book_maker.specs.NameNumbers.{number_in, numbers_in}
use Rattle.book_maker.specs.LookedUp.{looked_up_in}

-- the names that the rules declare, each kind in the order of its entries
abbrev pub kind_names : RawRulesSeen → List (List ℕ)
kind_names rules = map (λ t. t.name) rules.kinds

abbrev pub airport_names : RawRulesSeen → List (List ℕ)
airport_names rules = map (λ p. p.name) rules.airports

abbrev pub counter_names : RawRulesSeen → List (List ℕ)
counter_names rules = map (λ c. c.name) rules.counters

-- an airport uses no other name; its changes of local time are those of its rule
abbrev pub airport_in : RawAirportSeen → Result AirportSeen ℕ
airport_in p = Ok (record { name = p.name; offset = standard_of p.zone; changes = changes_of p.zone; turn = p.turn })

-- a curfew uses its airport, and then its types
abbrev pub curfew_in : List (List ℕ) → List (List ℕ) → RawCurfewSeen → Result CurfewSeen ℕ
curfew_in airports kinds c =
    look (number_in airports c.airport) (λ airport.
    look (numbers_in kinds c.types) (λ types.
    Ok (record {
      airport = airport;
      from = c.from;
      to = c.to;
      types = types;
      starts = c.starts;
      landings = c.landings;
    })))

-- a counter uses its bases
abbrev pub counter_in : List (List ℕ) → RawCounterSeen → Result CounterSeen ℕ
counter_in airports c =
    look (numbers_in airports c.bases) (λ bases.
    Ok (record {
      name = c.name;
      kind = c.kind;
      limit = c.limit;
      bases = bases;
      stop = c.stop;
    }))

-- the curfews with numbers: they stand behind types and airports, and have no names of their own
abbrev pub curfews_in : RawRulesSeen → Result (List CurfewSeen) Refusal
curfews_in rules =
    looked_up_in Rules (1 + length rules.kinds + length rules.airports) (λ _. None)
    (curfew_in (airport_names rules) (kind_names rules)) rules.curfews

-- the counters with numbers, which stand behind these
abbrev pub counters_in : RawRulesSeen → Result (List CounterSeen) Refusal
counters_in rules =
    looked_up_in Rules (1 + length rules.kinds + length rules.airports + length rules.curfews) (λ c. Some c.name)
    (counter_in (airport_names rules)) rules.counters

-- the rules with numbers, or their first refusal: their entries are numbered from 1, types before airports, curfews and
-- counters; a type and an airport use no other name
abbrev pub rules_in : RawRulesSeen → Result RulesSeen Refusal
rules_in rules =
    look (looked_up_in Rules 1 (λ t. Some t.name) (λ t. Ok t) rules.kinds) (λ kinds.
    look (looked_up_in Rules (1 + length rules.kinds) (λ p. Some p.name) airport_in rules.airports) (λ airports.
    look (curfews_in rules) (λ curfews.
    look (counters_in rules) (λ counters.
    Ok (record {
      kinds = kinds;
      airports = airports;
      curfews = curfews;
      counters = counters;
      bands = rules.bands;
    })))))
