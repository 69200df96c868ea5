-- The entries of the key `curfew`: an airport, its closed hours in local minutes of the day, the types that they hold
-- for, and whether they hold for starts and for landings.
use Rattle.std.specs.Prelude.{ℕ, [], ◌∷◌, codes, Result, Ok}
use Rattle.toml.specs.Data.{Members}
use Rattle.tail_book.specs.declared.limits.TheConstants.{CURFEW_LIMIT, ITEM_LIMIT}
use Rattle.tail_text.specs.Checks.{look}
use Rattle.fleet_rules.specs.Entries.{Section}
use Rattle.fleet_rules.specs.RawRules.{RawCurfewSeen}
use Rattle.fleet_rules.specs.TomlValues.{name_at, names_at, time_at, truth_at}

-- a curfew: its airport, its local times, the types that it holds for, and whether for starts and for landings
abbrev pub curfew_in : Members → Result RawCurfewSeen ℕ
curfew_in table =
    look (name_at (codes "airport") table) (λ airport.
    look (time_at (codes "from") table) (λ from.
    look (time_at (codes "to") table) (λ to.
    look (names_at (codes "types") ITEM_LIMIT table) (λ types.
    look (truth_at (codes "start") table) (λ starts.
    look (truth_at (codes "landing") table) (λ landings.
    Ok (record {
      airport = airport;
      from = from;
      to = to;
      types = types;
      starts = starts;
      landings = landings;
    })))))))

-- the curfews, no more than a book has
abbrev pub curfews : Section RawCurfewSeen
curfews = record {
  key = codes "curfew";
  limit = CURFEW_LIMIT;
  keys = codes "airport" ∷ codes "from" ∷ codes "to" ∷ codes "types" ∷ codes "start" ∷ codes "landing" ∷ [];
  entry_of = curfew_in;
}
