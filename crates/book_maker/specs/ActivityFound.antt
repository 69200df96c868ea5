-- The activities of the timetable, with numbers in place of the names that they use. The first name that nothing has,
-- in this order, is code 12.
use Rattle.std.specs.Prelude.{ℕ, List, map, Result, Ok}
use Rattle.tail_book.specs.Seen.{ActivitySeen}
use Rattle.tail_text.specs.Checks.{look}
use Rattle.timetable_reader.specs.Activity.{RawActivitySeen}
use Rattle.book_maker.specs.NameNumbers.{number_in, numbers_in, optional_number_in, place_in}

-- an activity uses its airports, its types, the aircraft that it is preassigned to, and the counters that it resets; tags
-- are not declared
abbrev pub activity_in : List (List ℕ) → List (List ℕ) → List (List ℕ) → List (List ℕ) → List (List ℕ) → RawActivitySeen → Result ActivitySeen ℕ
activity_in kinds airports counters tails tags a =
    look (number_in airports a.from) (λ from.
    look (number_in airports a.to) (λ to.
    look (numbers_in kinds a.types) (λ types.
    look (optional_number_in tails a.tail) (λ tail.
    look (numbers_in counters a.resets) (λ resets.
    Ok (record {
      id = a.id;
      flight = a.flight;
      from = from;
      to = to;
      start = a.start;
      end = a.end;
      types = types;
      tags = map (place_in tags) a.tags;
      tail = tail;
      resets = resets;
    }))))))
