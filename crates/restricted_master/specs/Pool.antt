-- A pool of routes, each kept with its cost, and what makes it one for a book and its table.
use Rattle.std.specs.Prelude.{◌≡◌, ℕ, ◌<◌, List, [], ◌∷◌, ◌++◌, All, Any, map, length, slice_index_or}
use Rattle.tail_book.specs.Seen.{BookSeen}
use Rattle.tail_book.specs.declared.place.Place.TheVariants.{Carry}
use Rattle.tail_book.specs.Lookup.{activities, aircraft}
use Rattle.tail_book.specs.TableSeen.{CostTableSeen}
use Rattle.tail_book.specs.CostTable.{route_cost_in}
use Rattle.tail_book.specs.inside.Rising.{IsRisingFrom}
use Rattle.branch_marks.specs.Pool.{Pooled}
use Rattle.restricted_master.specs.Seen.{PoolSeen}

-- no route
abbrev pub empty_pool : PoolSeen
empty_pool = record { entries = []; costs = [] }

-- the entry of a number, that of an empty route past the end
abbrev pub entry_at : PoolSeen → ℕ → Pooled
entry_at pool i = slice_index_or pool.entries i (record { aircraft = 0; route = [] })

-- the route of a number, its aircraft, and its cost
abbrev pub route_at : PoolSeen → ℕ → List ℕ
route_at pool i = (entry_at pool i).route

abbrev pub aircraft_at : PoolSeen → ℕ → ℕ
aircraft_at pool i = (entry_at pool i).aircraft

abbrev pub cost_at : PoolSeen → ℕ → ℕ
cost_at pool i = slice_index_or pool.costs i 0

-- the pool has a route of aircraft k at a number
abbrev pub IsEntryAt : PoolSeen → ℕ → List ℕ → ℕ → Type 0
IsEntryAt pool k route i = (i < length pool.entries) × (entry_at pool i ≡ record { aircraft = k; route = route })

-- the pool with one entry more at its end, and its cost
abbrev pub with_entry : PoolSeen → Pooled → ℕ → PoolSeen
with_entry pool entry cost = record { entries = pool.entries ++ entry ∷ []; costs = pool.costs ++ cost ∷ [] }

-- what an entry costs by a table
abbrev pub entry_cost : CostTableSeen → BookSeen → Pooled → ℕ
entry_cost table book entry = route_cost_in table book entry.aircraft entry.route

-- the pool is one for the book: each route is of an aircraft of it, its activities are of it and rise, and it is kept
-- with what it costs by the table
pub record IsPoolFor (table : CostTableSeen) (book : BookSeen) (pool : PoolSeen) : Type 0 where
  pub aircraft : All (λ (entry : Pooled). entry.aircraft < aircraft book) pool.entries
  pub rising : All (λ (entry : Pooled). IsRisingFrom (activities book) Carry entry.route) pool.entries
  pub costs : pool.costs ≡ map (entry_cost table book) pool.entries

-- the pool has a route of each aircraft
abbrev pub HasRoutes : BookSeen → PoolSeen → Type 0
HasRoutes book pool = (k : ℕ) → k < aircraft book → Any (λ (entry : Pooled). entry.aircraft ≡ k) pool.entries
