-- The order of counter values: no higher before a step is no higher after it.
use Rattle.std.specs.Prelude.{ℕ, ℤ, ◌≡◌, List, length}
use Rattle.std.specs.Bool.{Decides}
use Rattle.tail_book.specs.Seen.{CounterSeen, BookSeen}
use Rattle.tail_book.specs.declared.place.Place.{Place}
use Rattle.tail_book.specs.Counters.{step, WithinLimits}
use Rattle.tail_book.specs.Route.{IsLegalFrom}
use Rattle.tail_book.specs.inside.Route.{counters_from}
use Rattle.tail_book.specs.CounterOrder.{EachAtMost, each_at_most}

-- the test is true exactly where the fact holds
abbrev pub EachAtMostDecides : Type 0
EachAtMostDecides = (values others : List ℤ) → Decides (each_at_most values others) (EachAtMost values others)

-- values are at most themselves
abbrev pub EachAtMostItself : Type 0
EachAtMostItself = (values : List ℤ) → EachAtMost values values

-- what is at most the middle is at most what the middle is at most
abbrev pub EachAtMostChains : Type 0
EachAtMostChains = (values middle others : List ℤ) → EachAtMost values middle → EachAtMost middle others → EachAtMost values others

-- a step keeps the order
abbrev pub StepsKeepOrder : Type 0
StepsKeepOrder = (book : BookSeen) (k : ℕ) (x : Place) (b : ℕ) (values others : List ℤ) → EachAtMost values others
    → EachAtMost (step book k x b values) (step book k x b others)

-- and so do the steps along a route
abbrev pub RoutesKeepOrder : Type 0
RoutesKeepOrder = (book : BookSeen) (k : ℕ) (x : Place) (values others : List ℤ) (route : List ℕ) → EachAtMost values others
    → EachAtMost (counters_from book k x values route) (counters_from book k x others route)

-- what is at most values within their limits is within them
abbrev pub LowerStaysWithin : Type 0
LowerStaysWithin = (counters : List CounterSeen) (values others : List ℤ) → EachAtMost values others
    → WithinLimits counters others → WithinLimits counters values

-- a rest of a route that is legal with some values is legal with lower ones
abbrev pub LowerStaysLegal : Type 0
LowerStaysLegal = (book : BookSeen) (k : ℕ) (x : Place) (values others : List ℤ) (route : List ℕ) → EachAtMost values others
    → IsLegalFrom book k x others route → IsLegalFrom book k x values route

-- a step keeps one value for each counter
abbrev pub StepsKeepCount : Type 0
StepsKeepCount = (book : BookSeen) (k : ℕ) (x : Place) (b : ℕ) (values : List ℤ) → length values ≡ length book.rules.counters
    → length (step book k x b values) ≡ length book.rules.counters

-- and so do the steps along a route
abbrev pub RoutesKeepCount : Type 0
RoutesKeepCount = (book : BookSeen) (k : ℕ) (x : Place) (values : List ℤ) (route : List ℕ) → length values ≡ length book.rules.counters
    → length (counters_from book k x values route) ≡ length book.rules.counters
