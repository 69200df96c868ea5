-- What the network tells of an aircraft's links: those to an activity come from its predecessors, those from it lead to its
-- successors. For src/link_steps.rt and src/laws.rt.
use Rattle.std.specs.Prelude.{ℕ, ℤ, ◌≡◌, ◌<◌, ◌&&◌, List, Bool, true, false, Option, All}
use Rattle.std.specs.List.{list_any, range_with_len}
use Rattle.tail_book.specs.Seen.{BookSeen}
use Rattle.tail_book.specs.declared.place.Place.TheVariants.{After}
use Rattle.tail_book.specs.Lookup.{activities}
use Rattle.tail_book.specs.Counters.{step}
use Rattle.tail_book.specs.inside.Sound.{IsBook}
use Rattle.tail_book.specs.LegalTests.{within_limits}
use Rattle.connection_net.specs.Net.{net_of, predecessors_in, successors_in}
use Rattle.branch_marks.specs.declared.fact.Fact.{Fact}
use Rattle.branch_marks.specs.MarkTests.{is_usable}
use Rattle.branch_marks.specs.Following.{NoneGoesOn}
use Rattle.floor_rows.specs.inside.LeastOver.{least_over, brought}

-- predecessors have smaller numbers
abbrev pub PredecessorsComeBefore : Type 0
PredecessorsComeBefore = (book : BookSeen) → IsBook book → (b : ℕ) → b < activities book → All (λ x. x < b) (predecessors_in (net_of book) b)

-- what is brought to an activity is brought by its predecessors
abbrev pub PredecessorsBringAll : Type 0
PredecessorsBringAll = (book : BookSeen) → IsBook book → (marks : List Fact) (k b : ℕ) → b < activities book → (floor : ℕ → Option (List ℤ))
    → least_over (brought book marks k b floor) (predecessors_in (net_of book) b) ≡ least_over (brought book marks k b floor) (range_with_len 0 b)

-- with these values at a, aircraft k can go on to b
abbrev pub goes_on_to : BookSeen → List Fact → ℕ → ℕ → List ℤ → ℕ → Bool
goes_on_to book marks k a values b = is_usable book marks k (After a) b && within_limits book.rules.counters (step book k (After a) b values)

-- with these values at a, aircraft k can go on to a successor of a
abbrev pub goes_on_from : BookSeen → List Fact → ℕ → ℕ → List ℤ → Bool
goes_on_from book marks k a values = list_any (goes_on_to book marks k a values) (successors_in (net_of book) a)

-- successors are of the book
abbrev pub SuccessorsAreOfBook : Type 0
SuccessorsAreOfBook = (book : BookSeen) (a : ℕ) → All (λ b. b < activities book) (successors_in (net_of book) a)

-- and so are predecessors
abbrev pub PredecessorsAreOfBook : Type 0
PredecessorsAreOfBook = (book : BookSeen) (b : ℕ) → All (λ a. a < activities book) (predecessors_in (net_of book) b)

-- successors tell whether the aircraft can go on at all
pub record SuccessorsTell (book : BookSeen) (marks : List Fact) (k a : ℕ) (values : List ℤ) : Type 0 where
  pub goes : goes_on_from book marks k a values ≡ true → ¬ NoneGoesOn book marks k a values
  pub none : goes_on_from book marks k a values ≡ false → NoneGoesOn book marks k a values
