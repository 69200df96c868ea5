-- The aircraft of the fleet, with numbers in place of the names that they use. The first name that nothing has, in this
-- order, is code 12; a counter that the carry values name twice is code 11.
use Rattle.std.specs.Prelude.{ℕ, List, map, Result, Ok}
use Rattle.tail_book.specs.Seen.{TailSeen}
use Rattle.tail_text.specs.Checks.{look}
use Rattle.fleet_rules.specs.Tail.{RawTailSeen}
use Rattle.book_maker.specs.CarryFound.{carry_in}
use Rattle.book_maker.specs.NameNumbers.{number_in, numbers_in, place_in}

-- an aircraft uses its type, its airport, the airports that it avoids, and the counters of its carry values; tags are not
-- declared
abbrev pub tail_in : List (List ℕ) → List (List ℕ) → List (List ℕ) → List (List ℕ) → RawTailSeen → Result TailSeen ℕ
tail_in kinds airports counters tags t =
    look (number_in kinds t.kind) (λ kind.
    look (number_in airports t.at) (λ at.
    look (numbers_in airports t.avoid) (λ avoid.
    look (carry_in counters t.carry) (λ carry.
    Ok (record {
      name = t.name;
      kind = kind;
      at = at;
      ready = t.ready;
      fixed = t.fixed;
      tags = map (place_in tags) t.tags;
      avoid = avoid;
      carry = carry;
    })))))
