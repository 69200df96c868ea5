-- The entries of the key `counter`: a name, what is counted, the limit, and the stops that clear it.
use Rattle.std.specs.Prelude.{ℕ, ℤ, pos, ◌*ℤ◌, List, [], ◌∷◌, codes, if◌then◌else◌, Option, Some, None, Result, Ok}
use Rattle.std.specs.Option.{ok_or}
use Rattle.std.specs.Str.{bytes_eq}
use Rattle.toml.specs.Data.{Members, as_str}
use Rattle.tail_book.specs.declared.limits.TheConstants.{BASE_LIMIT, COUNTER_LIMIT, DAY, DAYS_LIMIT, STOP_LIMIT, VALUE_LIMIT}
use Rattle.tail_book.specs.declared.rules.CounterKind.{CounterKind}
use Rattle.tail_book.specs.declared.rules.CounterKind.TheVariants.{Minutes, Landings, Days}
use Rattle.tail_text.specs.Checks.{look}
use Rattle.tail_text.specs.declared.codes.TheConstants.{KIND}
use Rattle.fleet_rules.specs.Entries.{Section}
use Rattle.fleet_rules.specs.RawRules.{RawCounterSeen}
use Rattle.fleet_rules.specs.TomlValues.{name_at, names_at, number_at, value_at}

-- what a counter counts, as its entry writes it
abbrev pub counter_kind : List ℕ → Option CounterKind
counter_kind text =
    if bytes_eq text (codes "minutes") then Some Minutes
    else if bytes_eq text (codes "landings") then Some Landings
    else if bytes_eq text (codes "days") then Some Days
    else None

-- a key's kind of counter
abbrev pub kind_at : List ℕ → Members → Result CounterKind ℕ
kind_at key table =
    look (value_at key table) (λ value.
    look (ok_or (as_str value) KIND) (λ text.
    ok_or (counter_kind text) KIND))

-- a key's limit: minutes or landings, and minutes for days too
abbrev pub limit_at : List ℕ → CounterKind → Members → Result ℤ ℕ
limit_at key Minutes table = number_at key (pos 1) VALUE_LIMIT table
limit_at key Landings table = number_at key (pos 1) VALUE_LIMIT table
limit_at key Days table =
    look (number_at key (pos 1) DAYS_LIMIT table) (λ days.
    Ok (days *ℤ DAY))

-- a counter: its kind, its limit, the airports where a stop clears it, and how many minutes such a stop lasts
abbrev pub counter_in : Members → Result RawCounterSeen ℕ
counter_in table =
    look (name_at (codes "name") table) (λ name.
    look (kind_at (codes "kind") table) (λ kind.
    look (limit_at (codes "limit") kind table) (λ limit.
    look (names_at (codes "bases") BASE_LIMIT table) (λ bases.
    look (number_at (codes "stop") (pos 1) STOP_LIMIT table) (λ stop.
    Ok (record { name = name; kind = kind; limit = limit; bases = bases; stop = stop }))))))

-- the counters, no more than a book has
abbrev pub counters : Section RawCounterSeen
counters = record {
  key = codes "counter";
  limit = COUNTER_LIMIT;
  keys = codes "name" ∷ codes "kind" ∷ codes "limit" ∷ codes "bases" ∷ codes "stop" ∷ [];
  entry_of = counter_in;
}
