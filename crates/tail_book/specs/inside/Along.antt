-- Legality as it is told: each activity is linked from the place before it, and after each the counters are within their limits.
use Rattle.std.specs.Prelude.{ℕ, ◌+◌, ℤ, ◌<◌, ◌≤◌, ◌≡◌, ◌↔◌, ⊤, List, [], ◌∷◌, length, take, slice_index_or}
use Rattle.tail_book.specs.Seen.{BookSeen}
use Rattle.tail_book.specs.declared.place.Place.{Place}
use Rattle.tail_book.specs.declared.place.Place.TheVariants.{Carry, After}
use Rattle.tail_book.specs.Link.{IsLink}
use Rattle.tail_book.specs.Counters.{step, WithinLimits}
use Rattle.tail_book.specs.Route.{IsLegalRoute}
use Rattle.tail_book.specs.inside.Route.{counters_after}
use Rattle.tail_book.specs.inside.OneMore.{end_place}

-- the counters of aircraft k after the first i activities of a route
abbrev pub counters_along : BookSeen → ℕ → List ℕ → ℕ → List ℤ
counters_along book k route i = counters_after book k (take i route)

-- they take the steps of the route one by one
abbrev pub CountersAlongStep : Type 0
CountersAlongStep = (book : BookSeen) (k : ℕ) (route : List ℕ) (i : ℕ) → i < length route
    → counters_along book k route (i + 1) ≡ step book k (end_place (take i route)) (slice_index_or route i 0) (counters_along book k route i)

-- from a place on each activity is linked from the place before it
abbrev pub IsLinkedFrom : BookSeen → ℕ → Place → List ℕ → Type 0
IsLinkedFrom book k x [] = ⊤
IsLinkedFrom book k x (b ∷ rest) = IsLink book k x b × IsLinkedFrom book k (After b) rest

-- the route is linked from the carry-in on, and after each of its first i activities the counters are within their limits
pub record IsLegalAlong (book : BookSeen) (k : ℕ) (route : List ℕ) : Type 0 where
  pub links : IsLinkedFrom book k Carry route
  pub within : (i : ℕ) → 1 ≤ i → i ≤ length route → WithinLimits book.rules.counters (counters_along book k route i)

-- that is what a legal route is
abbrev pub LegalIsLegalAlong : Type 0
LegalIsLegalAlong = (book : BookSeen) (k : ℕ) (route : List ℕ) → IsLegalRoute book k route ↔ IsLegalAlong book k route
