-- The names that the tables declare, each kind by itself. The number of a name is its place in the list of its kind.
use Rattle.std.specs.Prelude.{ℕ, ◌≡◌, ◌<◌, ◌^◌, List, length, Some, Result}
use Rattle.tail_book.specs.Seen.{ActivitySeen, RulesSeen, TailSeen}
use Rattle.tail_text.specs.declared.refusal.Refusal.{Refusal}
use Rattle.tail_text.specs.declared.refusal.Table.TheVariants.{Fleet, Timetable}
use Rattle.timetable_reader.specs.Activity.{RawActivitySeen}
use Rattle.fleet_rules.specs.RawRules.{RawRulesSeen}
use Rattle.fleet_rules.specs.Tail.{RawTailSeen}
use Rattle.book_maker.specs.LookedUp.{looked_up_in}
use Rattle.book_maker.specs.TailFound.{tail_in}
use Rattle.book_maker.specs.ActivityFound.{activity_in}
use Rattle.book_maker.specs.RulesFound.{airport_names, counter_names, kind_names}

-- the names of each kind, in order of their numbers
pub record KnownNames : Type 0 where
  pub kinds : List (List ℕ)
  pub airports : List (List ℕ)
  pub counters : List (List ℕ)
  pub tails : List (List ℕ)
  pub tags : List (List ℕ)

-- their numbers have 32 bits
pub record AreNumbered (known : KnownNames) : Type 0 where
  pub kinds : length known.kinds < 2 ^ 32
  pub airports : length known.airports < 2 ^ 32
  pub counters : length known.counters < 2 ^ 32
  pub tails : length known.tails < 2 ^ 32
  pub tags : length known.tags < 2 ^ 32

-- as many types, airports and counters in the rules as names of them
pub record HasAsMany (known : KnownNames) (rules : RulesSeen) : Type 0 where
  pub kinds : length rules.kinds ≡ length known.kinds
  pub airports : length rules.airports ≡ length known.airports
  pub counters : length rules.counters ≡ length known.counters

-- the known names with those of one kind
abbrev pub with_kinds : KnownNames → List (List ℕ) → KnownNames
with_kinds known names = record { kinds = names; airports = known.airports; counters = known.counters; tails = known.tails; tags = known.tags }

abbrev pub with_airports : KnownNames → List (List ℕ) → KnownNames
with_airports known names = record { kinds = known.kinds; airports = names; counters = known.counters; tails = known.tails; tags = known.tags }

abbrev pub with_counters : KnownNames → List (List ℕ) → KnownNames
with_counters known names = record { kinds = known.kinds; airports = known.airports; counters = names; tails = known.tails; tags = known.tags }

abbrev pub with_tails : KnownNames → List (List ℕ) → KnownNames
with_tails known names = record { kinds = known.kinds; airports = known.airports; counters = known.counters; tails = names; tags = known.tags }

-- the known names with those that the rules declare
abbrev pub with_rules : KnownNames → RawRulesSeen → KnownNames
with_rules known rules = record {
  kinds = kind_names rules;
  airports = airport_names rules;
  counters = counter_names rules;
  tails = known.tails;
  tags = known.tags;
}

-- the aircraft with the numbers of known names; the header is record 1 of its table, so the first one stands in record 2
abbrev pub tails_by : KnownNames → List RawTailSeen → Result (List TailSeen) Refusal
tails_by known tails =
    looked_up_in Fleet 2 (λ t. Some t.name) (tail_in known.kinds known.airports known.counters known.tags) tails

-- the activities with the numbers of known names, in the order of their table
abbrev pub activities_by : KnownNames → List RawActivitySeen → Result (List ActivitySeen) Refusal
activities_by known activities =
    looked_up_in Timetable 2 (λ a. Some a.id)
    (activity_in known.kinds known.airports known.counters known.tails known.tags) activities
