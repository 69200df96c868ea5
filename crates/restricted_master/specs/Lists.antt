-- The routes of a pool by activity, in order of aircraft, and by aircraft, as lists of their numbers.
-- For src/route_lists.rt, src/aircraft_choices.rt and others.
use Rattle.std.specs.Prelude.{ℕ, ◌≡◌, ◌<◌, List, [], Bool, nat_eq, filter, length, slice_index_or}
use Rattle.std.specs.List.{flat_map, range_with_len}
use Rattle.tail_book.specs.Numbers.{contains}
use Rattle.restricted_master.specs.Seen.{PoolSeen, RouteListsSeen}
use Rattle.restricted_master.specs.Pool.{route_at, aircraft_at}

-- whether a route is of an aircraft, and whether it has an activity
abbrev pub is_of : PoolSeen → ℕ → ℕ → Bool
is_of pool k i = nat_eq k (aircraft_at pool i)

abbrev pub has : PoolSeen → ℕ → ℕ → Bool
has pool a i = contains (route_at pool i) a

-- the numbers of an aircraft's routes, in the pool's order
abbrev pub numbers_of : PoolSeen → ℕ → List ℕ
numbers_of pool k = filter (is_of pool k) (range_with_len 0 (length pool.entries))

-- the numbers of the routes of the first m aircraft, one aircraft after the other
abbrev pub in_order : PoolSeen → ℕ → List ℕ
in_order pool m = flat_map (numbers_of pool) (range_with_len 0 m)

-- the list of an activity, and that of an aircraft
abbrev pub list_at : List (List ℕ) → ℕ → List ℕ
list_at lists at = slice_index_or lists at []

-- the lists for n activities and m aircraft: by activity the routes that have it, in order of aircraft, and by aircraft its own
pub record AreListsOf (pool : PoolSeen) (n m : ℕ) (lists : RouteListsSeen) : Type 0 where
  pub each_activity : length lists.by_activity ≡ n
  pub by_activity : (a : ℕ) → a < n → list_at lists.by_activity a ≡ filter (has pool a) (in_order pool m)
  pub each_aircraft : length lists.by_aircraft ≡ m
  pub by_aircraft : (k : ℕ) → k < m → list_at lists.by_aircraft k ≡ numbers_of pool k
