-- The rules of propagation as tests that compute, and that each decides its definition. For cert_checker/src/node_tests.rt.
use Rattle.std.specs.Prelude.{ℕ, ℤ, List, Bool, true, false, ◌&&◌, ◌||◌, not, nat_eq, Option, Some, None}
use Rattle.tail_book.specs.Seen.{BookSeen}
use Rattle.tail_book.specs.declared.place.Place.TheVariants.{After}
use Rattle.tail_book.specs.Lookup.{activities, aircraft}
use Rattle.tail_book.specs.Counters.{step}
use Rattle.tail_book.specs.LegalTests.{within_limits}
use Rattle.branch_marks.specs.declared.fact.Fact.{Fact}
use Rattle.branch_marks.specs.declared.fact.Fact.TheVariants.{Bar, Must, Cut, Tie}
use Rattle.branch_marks.specs.Below.{all_below, some_below}
use Rattle.branch_marks.specs.MarkTests.{is_fact_of, is_alive, is_usable, may_end}
use Rattle.branch_marks.specs.FactTests.{has_fact}
use Rattle.branch_marks.specs.Floors.{floor_at}

-- with these values at a, no usable link of aircraft k from a stays within the limits
abbrev pub none_goes_on : BookSeen → List Fact → ℕ → ℕ → List ℤ → Bool
none_goes_on book marks k a values =
    all_below (λ b. not (is_usable book marks k (After a) b && within_limits book.rules.counters (step book k (After a) b values))) (activities book)

-- dead on arrival, or a dead end
abbrev pub is_dead_by : BookSeen → List Fact → ℕ → ℕ → Option (List ℤ) → Bool
is_dead_by book marks k a None = true
is_dead_by book marks k a (Some low) = not (may_end marks k (After a)) && none_goes_on book marks k a low

unfoldable pub is_dead : BookSeen → List Fact → ℕ → ℕ → Bool
is_dead book marks k a =
    is_fact_of book (Bar k a) && (is_alive book marks k a && is_dead_by book marks k a (floor_at book marks k (After a)))

-- the only carrier
unfoldable pub is_only_carrier : BookSeen → List Fact → ℕ → ℕ → Bool
is_only_carrier book marks k a =
    is_fact_of book (Must k a) && (is_alive book marks k a
    && (all_below (λ j. not (is_alive book marks j a) || nat_eq j k) (aircraft book)
    && all_below (λ j. not (has_fact marks (Must j a))) (aircraft book)))

-- aircraft k cannot go on from a to b
abbrev pub cannot_go_by : BookSeen → ℕ → ℕ → ℕ → Option (List ℤ) → Bool
cannot_go_by book k a b None = true
cannot_go_by book k a b (Some low) = not (within_limits book.rules.counters (step book k (After a) b low))

-- a dead connection
unfoldable pub is_dead_connection : BookSeen → List Fact → ℕ → ℕ → Bool
is_dead_connection book marks a b =
    is_fact_of book (Cut a b) && (not (has_fact marks (Cut a b))
    && (some_below (λ k. is_usable book marks k (After a) b) (aircraft book)
    && all_below (λ k. not (is_usable book marks k (After a) b) || cannot_go_by book k a b (floor_at book marks k (After a))) (aircraft book)))

-- the fact follows from the marks
abbrev pub follows : BookSeen → List Fact → Fact → Bool
follows book marks (Bar k a) = is_dead book marks k a
follows book marks (Must k a) = is_only_carrier book marks k a
follows book marks (Cut a b) = is_dead_connection book marks a b
follows book marks (Tie a b) = false

-- none of the book's facts follows
abbrev pub is_shut : BookSeen → List Fact → Bool
is_shut book marks =
    all_below (λ k. all_below (λ a. not (is_dead book marks k a) && not (is_only_carrier book marks k a)) (activities book)) (aircraft book)
    && all_below (λ a. all_below (λ b. not (is_dead_connection book marks a b)) (activities book)) (activities book)
