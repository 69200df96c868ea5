-- The connection network of a book: which activity may come directly after which, for at least one aircraft.
use Rattle.std.specs.Prelude.{ℕ, Bool, List, [], map, slice_index_or}
use Rattle.std.specs.List.{filter, list_any, range_with_len}
use Rattle.tail_book.specs.Seen.{BookSeen}
use Rattle.tail_book.specs.declared.place.Place.TheVariants.{Carry, After}
use Rattle.tail_book.specs.Lookup.{activities, aircraft}
use Rattle.tail_book.specs.LegalTests.{is_link}
use Rattle.connection_net.specs.Seen.{NetSeen}

-- some aircraft of the book may fly b directly after a
abbrev pub is_linked : BookSeen → ℕ → ℕ → Bool
is_linked book a b = list_any (λ k. is_link book k (After a) b) (range_with_len 0 (aircraft book))

-- the activities that may come directly after a, and those that b may come directly after, each for some aircraft
unfoldable pub successors_of : BookSeen → ℕ → List ℕ
successors_of book a = filter (is_linked book a) (range_with_len 0 (activities book))

unfoldable pub predecessors_of : BookSeen → ℕ → List ℕ
predecessors_of book b = filter (λ a. is_linked book a b) (range_with_len 0 (activities book))

-- the activities that aircraft k may fly first
unfoldable pub heads_of : BookSeen → ℕ → List ℕ
heads_of book k = filter (is_link book k Carry) (range_with_len 0 (activities book))

-- the network of a book: successors and predecessors for each activity, and heads for each aircraft
unfoldable pub net_of : BookSeen → NetSeen
net_of book = record {
  successors = map (successors_of book) (range_with_len 0 (activities book));
  predecessors = map (predecessors_of book) (range_with_len 0 (activities book));
  heads = map (heads_of book) (range_with_len 0 (aircraft book));
}

-- the rows of a number; an activity or an aircraft without a row has nothing
abbrev pub successors_in : NetSeen → ℕ → List ℕ
successors_in net a = slice_index_or net.successors a []

abbrev pub predecessors_in : NetSeen → ℕ → List ℕ
predecessors_in net b = slice_index_or net.predecessors b []

abbrev pub heads_in : NetSeen → ℕ → List ℕ
heads_in net k = slice_index_or net.heads k []
