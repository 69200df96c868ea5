-- The least that an activity of a trial costs anybody.
use Rattle.std.specs.Prelude.{ℕ, ◌*◌, if◌then◌else◌, unsigned_abs}
use Rattle.tail_book.specs.Seen.{BookSeen}
use Rattle.tail_book.specs.Counters.{flown}
use Rattle.tail_book.specs.Lookup.{types_of}
use Rattle.tail_book.specs.Numbers.{is_empty}

-- a minute of a flight for all types costs 1 at least, and one of a flight for type `Q` costs 2
abbrev pub least_cost : BookSeen → ℕ → ℕ
least_cost book a = (if is_empty (types_of book a) then 1 else 2) * unsigned_abs (flown book a)
