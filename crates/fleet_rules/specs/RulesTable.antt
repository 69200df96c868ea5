-- The rules as a whole, up to their first refusal: the keys in the order that is listed here, whatever the text's
-- order.
use Rattle.std.specs.Prelude.{ℕ, ◌+◌, List, [], ◌∷◌, length, codes, nat_le, Result, Ok}
use Rattle.std.specs.Option.{ok_or}
use Rattle.std.specs.Str.{is_utf8}
use Rattle.toml.specs.Data.{Members}
use Rattle.toml.specs.Parse.{parse_document}
use Rattle.tail_text.specs.Checks.{look, must}
use Rattle.tail_text.specs.declared.codes.TheConstants.{KEY, NOT_UTF8, TOML, TOO_BIG}
use Rattle.tail_text.specs.declared.refusal.Refusal.{Refusal}
use Rattle.tail_text.specs.declared.refusal.TheConstants.{SIZE_LIMIT}
use Rattle.fleet_rules.specs.AirportEntry.{airports}
use Rattle.fleet_rules.specs.BandEntry.{bands}
use Rattle.fleet_rules.specs.CounterEntry.{counters}
use Rattle.fleet_rules.specs.CurfewEntry.{curfews}
use Rattle.fleet_rules.specs.Entries.{entries_at, refused}
use Rattle.fleet_rules.specs.RawRules.{RawRulesSeen}
use Rattle.fleet_rules.specs.TomlValues.{has_only}
use Rattle.fleet_rules.specs.TypeEntry.{types}

-- the keys of the whole table
abbrev pub top_keys : List (List ℕ)
top_keys = codes "type" ∷ codes "airport" ∷ codes "curfew" ∷ codes "counter" ∷ codes "band" ∷ []

-- what the whole table gives: none but these keys, and then the entries of each, numbered from 1 through all of them
unfoldable pub rules_in : Members → Result RawRulesSeen Refusal
rules_in table =
    must (has_only top_keys table) (refused KEY 0) (
    look (entries_at types 0 table) (λ kinds.
    look (entries_at airports (length kinds) table) (λ places.
    look (entries_at curfews (length kinds + length places) table) (λ closed.
    look (entries_at counters (length kinds + length places + length closed) table) (λ counted.
    look (entries_at bands (length kinds + length places + length closed + length counted) table) (λ costs.
    Ok (record {
      kinds = kinds;
      airports = places;
      curfews = closed;
      counters = counted;
      bands = costs;
    })))))))

-- the rules of a text, or its first refusal: its size, its bytes, its TOML, and then the table that it writes
abbrev pub rules_of : List ℕ → Result RawRulesSeen Refusal
rules_of bytes =
    must (nat_le (length bytes) SIZE_LIMIT) (refused TOO_BIG 0) (
    must (is_utf8 bytes) (refused NOT_UTF8 0) (
    look (ok_or (parse_document bytes) (refused TOML 0)) (λ table.
    rules_in table)))
