-- The entries of the key `band`: up to how many minutes on the ground a connection costs so many cost units.
use Rattle.std.specs.Prelude.{ℕ, pos, [], ◌∷◌, codes, Result, Ok}
use Rattle.toml.specs.Data.{Members}
use Rattle.tail_book.specs.declared.limits.TheConstants.{BAND_COST_LIMIT, BAND_LIMIT, VALUE_LIMIT}
use Rattle.tail_book.specs.declared.rules.Band.{Band}
use Rattle.tail_text.specs.Checks.{look}
use Rattle.fleet_rules.specs.Entries.{Section}
use Rattle.fleet_rules.specs.TomlValues.{count_at, number_at}

-- a band: the minutes on the ground up to which it reaches, and what a connection of so many costs, in cost units
abbrev pub band_in : Members → Result Band ℕ
band_in table =
    look (number_at (codes "upto") (pos 0) VALUE_LIMIT table) (λ upto.
    look (count_at (codes "cost") BAND_COST_LIMIT table) (λ cost.
    Ok (record { upto = upto; cost = cost })))

-- the bands, no more than a book has
abbrev pub bands : Section Band
bands = record {
  key = codes "band";
  limit = BAND_LIMIT;
  keys = codes "upto" ∷ codes "cost" ∷ [];
  entry_of = band_in;
}
