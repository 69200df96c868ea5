-- Where an aircraft may go on to from a place, by the network.
use Rattle.std.specs.Prelude.{ℕ, ◌≡◌, ◌<◌, true, List, All, length, slice_index_or}
use Rattle.tail_book.specs.Seen.{BookSeen}
use Rattle.tail_book.specs.declared.place.Place.{Place}
use Rattle.tail_book.specs.declared.place.Place.TheVariants.{Carry, After}
use Rattle.tail_book.specs.Lookup.{activities, aircraft}
use Rattle.connection_net.specs.Net.{net_of, heads_in, successors_in}
use Rattle.branch_marks.specs.declared.fact.Fact.{Fact}
use Rattle.branch_marks.specs.MarkTests.{is_usable}

-- from the carry-in to the heads of aircraft k, and from an activity to its successors
abbrev pub ways_of : BookSeen → ℕ → Place → List ℕ
ways_of book k Carry = heads_in (net_of book) k
ways_of book k (After x) = successors_in (net_of book) x

-- they lead to activities of the book
abbrev pub WaysAreOfBook : Type 0
WaysAreOfBook = (book : BookSeen) (k : ℕ) (x : Place) → All (λ b. b < activities book) (ways_of book k x)

-- and what every usable link of the aircraft leads to stands among them
abbrev pub WaysAreAll : Type 0
WaysAreAll = (book : BookSeen) (marks : List Fact) (k : ℕ) (x : Place) (b : ℕ) → k < aircraft book
    → is_usable book marks k x b ≡ true → (i : ℕ) × (i < length (ways_of book k x)) × (slice_index_or (ways_of book k x) i 0 ≡ b)
