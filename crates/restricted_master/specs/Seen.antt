-- What contracts see of a pool, and of its lists by activity and by aircraft. For src/pool.rt and src/route_lists.rt.
use Rattle.std.specs.Prelude.{ℕ, List}
use Rattle.branch_marks.specs.Pool.{Pooled}

-- a pool: its routes in the order in which they came, each with its aircraft, and what each costs, in cost units
pub record PoolSeen : Type 0 where
  pub entries : List Pooled
  pub costs : List ℕ

-- the numbers of a pool's routes: for each activity those that have it, and for each aircraft its own
pub record RouteListsSeen : Type 0 where
  pub by_activity : List (List ℕ)
  pub by_aircraft : List (List ℕ)
