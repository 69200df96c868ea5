-- What the rows of a network are, in plain words.
use Rattle.std.specs.Prelude.{ℕ, ◌<◌, ◌≡◌, ◌↔◌, true, List, length, slice_index_or, IsTrue}
use Rattle.tail_book.specs.Seen.{BookSeen}
use Rattle.tail_book.specs.declared.place.Place.{Place}
use Rattle.tail_book.specs.declared.place.Place.TheVariants.{Carry, After}
use Rattle.tail_book.specs.Lookup.{activities, aircraft}
use Rattle.tail_book.specs.Numbers.{contains}
use Rattle.tail_book.specs.Link.{IsLink}
use Rattle.tail_book.specs.inside.Rising.{IsRisingFrom}
use Rattle.tail_book.specs.inside.Sound.{IsBook}
use Rattle.connection_net.specs.Net.{net_of, successors_in, predecessors_in, heads_in}

-- some aircraft may fly b directly after a
abbrev pub SomeLink : BookSeen → ℕ → ℕ → Type 0
SomeLink book a b = (k : ℕ) × (k < aircraft book) × IsLink book k (After a) b

-- the law of successors: b is in the row of a exactly where some aircraft may fly b directly after a
abbrev pub SuccessorsAreLinks : Type 0
SuccessorsAreLinks =
    (book : BookSeen) (a b : ℕ) → IsTrue (contains (successors_in (net_of book) a) b) ↔ SomeLink book a b

-- the law of predecessors: a is in the row of b exactly where some aircraft may fly b directly after a
abbrev pub PredecessorsAreLinks : Type 0
PredecessorsAreLinks =
    (book : BookSeen) (a b : ℕ) → IsTrue (contains (predecessors_in (net_of book) b) a) ↔ SomeLink book a b

-- the law of heads: b is in the row of aircraft k exactly where k may fly it first
abbrev pub HeadsAreLinks : Type 0
HeadsAreLinks = (book : BookSeen) (k b : ℕ) → IsTrue (contains (heads_in (net_of book) k) b) ↔ IsLink book k Carry b

-- the law of both directions: b is a successor of a exactly where a is a predecessor of b
abbrev pub SuccessorsFacePredecessors : Type 0
SuccessorsFacePredecessors =
    (book : BookSeen) (a b : ℕ) → contains (successors_in (net_of book) a) b ≡ contains (predecessors_in (net_of book) b) a

-- the law of rows: the numbers of each row rise strictly and are of the book
pub record RowsRise (book : BookSeen) : Type 0 where
  pub successors : (a : ℕ) → IsRisingFrom (activities book) Carry (successors_in (net_of book) a)
  pub predecessors : (b : ℕ) → IsRisingFrom (activities book) Carry (predecessors_in (net_of book) b)
  pub heads : (k : ℕ) → IsRisingFrom (activities book) Carry (heads_in (net_of book) k)

-- the law of order: a successor has a larger number
abbrev pub SuccessorsFollow : Type 0
SuccessorsFollow =
    (book : BookSeen) → IsBook book → (a b : ℕ) → contains (successors_in (net_of book) a) b ≡ true → a < b

-- the law of counts: there is a row for each activity and for each aircraft of the book
pub record HasRowForEach (book : BookSeen) : Type 0 where
  pub successors : length (net_of book).successors ≡ activities book
  pub predecessors : length (net_of book).predecessors ≡ activities book
  pub heads : length (net_of book).heads ≡ aircraft book

-- the law of places: a row has what stands at its places and nothing else, and if it rises below n, all that it has is below n
pub record RowsAreTheirPlaces : Type 0 where
  pub has : (row : List ℕ) (i d : ℕ) → i < length row → contains row (slice_index_or row i d) ≡ true
  pub stands : (row : List ℕ) (b : ℕ) → contains row b ≡ true → (i : ℕ) × (i < length row) × (slice_index_or row i 0 ≡ b)
  pub below : (n : ℕ) (x : Place) (row : List ℕ) (b : ℕ) → IsRisingFrom n x row → contains row b ≡ true → b < n
