-- Linked activities rise in number, since each lasts and they stand in order of their starts. For src/laws.rt.
use Rattle.std.specs.Prelude.{ℕ, ◌<◌, ◌≡◌, ⊤, List, [], ◌∷◌, true}
use Rattle.tail_book.specs.Seen.{BookSeen}
use Rattle.tail_book.specs.declared.place.Place.{Place}
use Rattle.tail_book.specs.declared.place.Place.TheVariants.{Carry, After}
use Rattle.tail_book.specs.Numbers.{contains}
use Rattle.tail_book.specs.Place.{IsBefore}
use Rattle.tail_book.specs.Lookup.{activities, aircraft}
use Rattle.tail_book.specs.Link.{IsLink}
use Rattle.tail_book.specs.Route.{IsLegalRoute}
use Rattle.tail_book.specs.Plan.{IsLegalPlan, route_of}
use Rattle.tail_book.specs.inside.Sound.{IsBook}

-- the law of links: what comes directly after an activity has a larger number
abbrev pub LinksRise : Type 0
LinksRise = (book : BookSeen) → IsBook book → (k x b : ℕ) → x < activities book → b < activities book → IsLink book k (After x) b → x < b

-- from a place on, numbers rise strictly and are below n
abbrev pub IsRisingFrom : ℕ → Place → List ℕ → Type 0
IsRisingFrom n x [] = ⊤
IsRisingFrom n x (b ∷ rest) = IsBefore x b × (b < n) × IsRisingFrom n (After b) rest

-- the law of routes: the numbers of a legal route rise and are of the book
abbrev pub LegalRoutesRise : Type 0
LegalRoutesRise = (book : BookSeen) → IsBook book → (k : ℕ) (route : List ℕ) → IsLegalRoute book k route → IsRisingFrom (activities book) Carry route

-- the law of partition: in a legal plan each activity is flown by exactly one aircraft
abbrev pub EachIsFlownOnce : Type 0
EachIsFlownOnce = (book : BookSeen) (plan : List (List ℕ)) → IsLegalPlan book plan → (a : ℕ) → a < activities book
    → (k : ℕ) × (k < aircraft book) × (contains (route_of plan k) a ≡ true) × ((j : ℕ) → contains (route_of plan j) a ≡ true → j ≡ k)
