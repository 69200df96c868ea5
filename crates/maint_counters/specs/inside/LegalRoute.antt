-- Whether an activity may come next in a route that is legal so far, with the counters that it has.
use Rattle.std.specs.Prelude.{ℕ, ℤ, Bool, ◌&&◌, List, nat_lt}
use Rattle.tail_book.specs.Seen.{BookSeen}
use Rattle.tail_book.specs.declared.place.Place.{Place}
use Rattle.tail_book.specs.Lookup.{activities}
use Rattle.tail_book.specs.Counters.{step}
use Rattle.tail_book.specs.LegalTests.{is_link, within_limits}

-- it is an activity of the book, linked to the place before it, and every counter stays within its limit
abbrev pub is_legal_next : BookSeen → ℕ → Place → ℕ → List ℤ → Bool
is_legal_next book k x b values =
    nat_lt b (activities book) && (is_link book k x b && within_limits book.rules.counters (step book k x b values))
