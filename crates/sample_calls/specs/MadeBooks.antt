-- Books and activities that are made in memory, field by field, with no text of them.
use Rattle.std.specs.Prelude.{ℕ, ℤ, true, List, [], ◌∷◌, ◌++◌, None}
use Rattle.tail_book.specs.Seen.{ActivitySeen, BookSeen, TailSeen}

-- a flight of every type, with no tags, no preassignment and no resets; minutes since 1970-01-01T00:00 UTC
abbrev pub plain_flight : List ℕ → ℕ → ℕ → ℤ → ℤ → ActivitySeen
plain_flight id from to start end = record {
  id = id;
  flight = true;
  from = from;
  to = to;
  start = start;
  end = end;
  types = [];
  tags = [];
  tail = None;
  resets = [];
}

-- the book with an aircraft more, behind the others
abbrev pub with_aircraft : BookSeen → TailSeen → BookSeen
with_aircraft book tail = record book { tails = book.tails ++ tail ∷ [] }
