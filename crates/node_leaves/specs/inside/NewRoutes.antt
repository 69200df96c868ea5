-- Routes of the aircraft that are added to a pool: each is there then, and the answer tells whether the pool has grown.
use Rattle.std.specs.Prelude.{◌≡◌, ℕ, ◌<◌, Bool, true, false, List, Contains, length}
use Rattle.tail_book.specs.Seen.{BookSeen}
use Rattle.tail_book.specs.Plan.{route_of}
use Rattle.branch_marks.specs.declared.fact.Fact.{Fact}
use Rattle.branch_marks.specs.Pool.{Pooled, IsFittingEntry}
use Rattle.restricted_master.specs.Seen.{PoolSeen}

-- the entry of aircraft k's route among these
abbrev pub entry_of : List (List ℕ) → ℕ → Pooled
entry_of routes k = record { aircraft = k; route = route_of routes k }

-- the pool has grown; or it is the same
abbrev pub HasGrown : PoolSeen → PoolSeen → Bool → Type 0
HasGrown old new true = length old.entries < length new.entries
HasGrown old new false = new ≡ old

-- the pool has the route of each of the first n aircraft
abbrev pub HasAll : PoolSeen → List (List ℕ) → ℕ → Type 0
HasAll pool routes n = (k : ℕ) → k < n → Contains pool.entries (entry_of routes k)

-- the entry is in the pool, with all that was there; it was new, or nothing changed
pub record AddsRoute (old new : PoolSeen) (entry : Pooled) (grew : Bool) : Type 0 where
  pub here : Contains new.entries entry
  pub kept : (other : Pooled) → Contains old.entries other → Contains new.entries other
  pub grown : HasGrown old new grew

-- each of the routes is legal for its aircraft and fits the marks
abbrev pub AreFittingRoutes : BookSeen → List Fact → List (List ℕ) → Type 0
AreFittingRoutes book marks routes = (k : ℕ) → k < length routes → IsFittingEntry book marks (entry_of routes k)
