-- How far an aircraft comes on a route: the longest front that is legal.
use Rattle.std.specs.Prelude.{ℕ, ℤ, ◌+◌, ◌≤◌, ◌<◌, List, length, take}
use Rattle.tail_book.specs.Seen.{BookSeen}
use Rattle.tail_book.specs.declared.place.Place.{Place}
use Rattle.tail_book.specs.Counters.{step, WithinLimits}
use Rattle.tail_book.specs.Link.{IsLink}
use Rattle.tail_book.specs.Route.{IsLegalRoute}

-- b may come directly after place x, and leaves the counters, which have these values there, within their limits
pub record MayComeNext (book : BookSeen) (k : ℕ) (x : Place) (b : ℕ) (values : List ℤ) : Type 0 where
  pub link : IsLink book k x b
  pub within : WithinLimits book.rules.counters (step book k x b values)

-- the first n activities are a legal route, and with the next one, if there is one, they are none
pub record IsLongestFront (book : BookSeen) (k : ℕ) (route : List ℕ) (n : ℕ) : Type 0 where
  pub within : n ≤ length route
  pub legal : IsLegalRoute book k (take n route)
  pub ends : n < length route → ¬ IsLegalRoute book k (take (n + 1) route)
