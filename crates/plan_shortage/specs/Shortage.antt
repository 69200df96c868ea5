-- Shortages: activities of which all aircraft together can fly too few, whatever each of them flies of others. The asked
-- activities count for a route, and the brought ones against it. For src/shortages.rt and src/surpluses.rt.
use Rattle.std.specs.Prelude.{ℕ, ℤ, pos, ◌-ℤ◌, ◌≤ℤ◌, ◌<ℤ◌, ◌<◌, ◌≡◌, ◌≢◌, List, All, AllPairs, length, count_by, slice_index_or}
use Rattle.tail_book.specs.Seen.{BookSeen}
use Rattle.tail_book.specs.Numbers.{contains}
use Rattle.tail_book.specs.Lookup.{activities, aircraft}
use Rattle.tail_book.specs.Route.{IsLegalRoute}
use Rattle.tail_book.specs.Sums.{total}
use Rattle.tail_book.specs.Truth.{HasNoPlan}

-- how many of a route's activities are in a list
abbrev pub had : List ℕ → List ℕ → ℕ
had list route = count_by (contains list) route

-- how many of the asked activities a route has, less how many of the brought ones
abbrev pub surplus : List ℕ → List ℕ → List ℕ → ℤ
surplus asked brought route = pos (had asked route) -ℤ pos (had brought route)

-- the most of aircraft k: no legal route of it has a larger surplus, and one has this. Since the empty route is legal for
-- every aircraft, each has a most, which is never negative
pub record IsMost (book : BookSeen) (k : ℕ) (asked brought : List ℕ) (most : ℤ) : Type 0 where
  pub none_above : (route : List ℕ) → IsLegalRoute book k route → surplus asked brought route ≤ℤ most
  pub attained : (route : List ℕ) × IsLegalRoute book k route × (surplus asked brought route ≡ most)

-- the number of aircraft k, 0 past the end
abbrev pub most_of : List ℤ → ℕ → ℤ
most_of mosts k = slice_index_or mosts k (pos 0)

-- one number for each aircraft, in the book's order, and each is its most
pub record AreMosts (book : BookSeen) (asked brought : List ℕ) (mosts : List ℤ) : Type 0 where
  pub one_each : length mosts ≡ aircraft book
  pub each : (k : ℕ) → k < aircraft book → IsMost book k asked brought (most_of mosts k)

-- activities of the book, none of which stands twice
pub record AreActivitiesOf (book : BookSeen) (list : List ℕ) : Type 0 where
  pub of_book : All (λ a. a < activities book) list
  pub none_twice : AllPairs (λ a b. a ≢ b) list

-- what is due: the number of asked activities, less that of the brought ones
abbrev pub due : List ℕ → List ℕ → ℤ
due asked brought = pos (length asked) -ℤ pos (length brought)

-- a shortage: even the mosts of all aircraft together are less than what is due
pub record IsShortage (book : BookSeen) (asked brought : List ℕ) (mosts : List ℤ) : Type 0 where
  pub of_asked : AreActivitiesOf book asked
  pub of_brought : AreActivitiesOf book brought
  pub are_mosts : AreMosts book asked brought mosts
  pub short : total mosts <ℤ due asked brought

-- where there is a shortage, no plan is legal
abbrev pub ShortagesLeaveNoPlan : Type 0
ShortagesLeaveNoPlan = (book : BookSeen) (asked brought : List ℕ) (mosts : List ℤ) → IsShortage book asked brought mosts → HasNoPlan book
