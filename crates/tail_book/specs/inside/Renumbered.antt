-- Two books with the same aircraft and rules: what a route is worth depends on the records of its activities, and not on their numbers.
use Rattle.std.specs.Prelude.{ℕ, ◌<◌, ◌≡◌, ◌↔◌, ⊤, List, [], ◌∷◌}
use Rattle.tail_book.specs.Seen.{BookSeen}
use Rattle.tail_book.specs.Lookup.{activities, activity_of}
use Rattle.tail_book.specs.Route.{IsLegalRoute}
use Rattle.tail_book.specs.inside.Route.{counters_after}
use Rattle.tail_book.specs.Cost.{route_cost}

-- the books have the same aircraft and the same rules
pub record HaveSameFleet (book other : BookSeen) : Type 0 where
  pub tails : book.tails ≡ other.tails
  pub rules : book.rules ≡ other.rules

-- a is of the one book, b is of the other, and they have the same record
pub record IsSameActivity (book other : BookSeen) (a b : ℕ) : Type 0 where
  pub of_book : a < activities book
  pub of_other : b < activities other
  pub alike : activity_of book a ≡ activity_of other b

-- one by one the activities of the two routes are the same
abbrev pub AreSameActivities : BookSeen → BookSeen → List ℕ → List ℕ → Type 0
AreSameActivities book other [] [] = ⊤
AreSameActivities book other [] (b ∷ others) = ⊥
AreSameActivities book other (a ∷ route) [] = ⊥
AreSameActivities book other (a ∷ route) (b ∷ others) = IsSameActivity book other a b × AreSameActivities book other route others

-- then both routes are legal, or none is
abbrev pub RenumberedRoutesAreLegal : Type 0
RenumberedRoutesAreLegal = (book other : BookSeen) → HaveSameFleet book other → (k : ℕ) (route others : List ℕ) → AreSameActivities book other route others
    → IsLegalRoute book k route ↔ IsLegalRoute other k others

-- the counters after them are the same
abbrev pub RenumberedRoutesCount : Type 0
RenumberedRoutesCount = (book other : BookSeen) → HaveSameFleet book other → (k : ℕ) (route others : List ℕ) → AreSameActivities book other route others
    → counters_after book k route ≡ counters_after other k others

-- and they cost the same
abbrev pub RenumberedRoutesCost : Type 0
RenumberedRoutesCost = (book other : BookSeen) → HaveSameFleet book other → (k : ℕ) (route others : List ℕ) → AreSameActivities book other route others
    → route_cost book k route ≡ route_cost other k others
