-- The entries of the key `type`: a name, the cost units of a minute flown, and the turn in minutes.
use Rattle.std.specs.Prelude.{ℕ, pos, [], ◌∷◌, codes, Result, Ok}
use Rattle.toml.specs.Data.{Members}
use Rattle.tail_book.specs.declared.limits.TheConstants.{DAY, RATE_LIMIT, TYPE_LIMIT}
use Rattle.tail_book.specs.declared.rules.AircraftType.{AircraftType}
use Rattle.tail_text.specs.Checks.{look}
use Rattle.fleet_rules.specs.Entries.{Section}
use Rattle.fleet_rules.specs.TomlValues.{count_at, name_at, number_at}

-- an aircraft type: the cost units of a minute flown, and the turn in minutes
abbrev pub type_in : Members → Result AircraftType ℕ
type_in table =
    look (name_at (codes "name") table) (λ name.
    look (count_at (codes "rate") RATE_LIMIT table) (λ rate.
    look (number_at (codes "turn") (pos 0) DAY table) (λ turn.
    Ok (record { name = name; rate = rate; turn = turn }))))

-- the types, no more than a book has
abbrev pub types : Section AircraftType
types = record {
  key = codes "type";
  limit = TYPE_LIMIT;
  keys = codes "name" ∷ codes "rate" ∷ codes "turn" ∷ [];
  entry_of = type_in;
}
