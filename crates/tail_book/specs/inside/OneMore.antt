-- A route with one activity more at its end: what is asked of it, and what becomes of its counters, its place and its cost.
use Rattle.std.specs.Prelude.{ℕ, ◌+◌, ◌<◌, ◌≡◌, ◌↔◌, List, [], ◌∷◌, ◌++◌}
use Rattle.tail_book.specs.Seen.{BookSeen}
use Rattle.tail_book.specs.TableSeen.{CostTableSeen}
use Rattle.tail_book.specs.declared.place.Place.{Place}
use Rattle.tail_book.specs.declared.place.Place.TheVariants.{Carry, After}
use Rattle.tail_book.specs.Link.{IsLink}
use Rattle.tail_book.specs.Counters.{step, WithinLimits}
use Rattle.tail_book.specs.Route.{IsLegalRoute}
use Rattle.tail_book.specs.inside.Route.{counters_after, place_after}
use Rattle.tail_book.specs.Cost.{activity_cost, connection_cost, route_cost}
use Rattle.tail_book.specs.CostTable.{activity_cost_in, connection_cost_in, route_cost_in}
use Rattle.tail_book.specs.Place.{IsBefore}
use Rattle.tail_book.specs.inside.Rising.{IsRisingFrom}

-- where aircraft k is at the end of a route
abbrev pub end_place : List ℕ → Place
end_place route = place_after Carry route

-- the route is legal, b is linked from its end, and the counters stay within their limits after b
pub record GoesOnWith (book : BookSeen) (k : ℕ) (route : List ℕ) (b : ℕ) : Type 0 where
  pub before : IsLegalRoute book k route
  pub link : IsLink book k (end_place route) b
  pub within : WithinLimits book.rules.counters (step book k (end_place route) b (counters_after book k route))

-- that is what legality asks of a route with b at its end
abbrev pub LegalWithOneMore : Type 0
LegalWithOneMore = (book : BookSeen) (k : ℕ) (route : List ℕ) (b : ℕ) → IsLegalRoute book k (route ++ b ∷ []) ↔ GoesOnWith book k route b

-- its counters take one step more
abbrev pub CountersWithOneMore : Type 0
CountersWithOneMore = (book : BookSeen) (k : ℕ) (route : List ℕ) (b : ℕ)
    → counters_after book k (route ++ b ∷ []) ≡ step book k (end_place route) b (counters_after book k route)

-- it ends after b
abbrev pub PlaceWithOneMore : Type 0
PlaceWithOneMore = (x : Place) (route : List ℕ) (b : ℕ) → place_after x (route ++ b ∷ []) ≡ After b

-- it costs b and the connection to b more
abbrev pub CostWithOneMore : Type 0
CostWithOneMore = (book : BookSeen) (k : ℕ) (route : List ℕ) (b : ℕ)
    → route_cost book k (route ++ b ∷ []) ≡ route_cost book k route + (activity_cost book k b + connection_cost book k (end_place route) b)

-- and so by any table
abbrev pub CostWithOneMoreIn : Type 0
CostWithOneMoreIn = (table : CostTableSeen) (book : BookSeen) (k : ℕ) (route : List ℕ) (b : ℕ)
    → route_cost_in table book k (route ++ b ∷ [])
    ≡ route_cost_in table book k route + (activity_cost_in table k b + connection_cost_in table book k (end_place route) b)

-- it rises where the route does and b is of the book and beyond its end
abbrev pub RisingWithOneMore : Type 0
RisingWithOneMore = (n : ℕ) (x : Place) (route : List ℕ) (b : ℕ)
    → IsRisingFrom n x (route ++ b ∷ []) ↔ (IsRisingFrom n x route × IsBefore (place_after x route) b × (b < n))
