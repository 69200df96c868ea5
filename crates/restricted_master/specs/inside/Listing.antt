-- Lists of numbers that grow: by aircraft one route after the other, and by activity as many routes as are put to them.
-- For src/route_lists.rt and src/moving.rt.
use Rattle.std.specs.Prelude.{ℕ, ◌≡◌, ◌<◌, ⊤, false, List, [], ◌∷◌, ◌++◌, if◌then◌else◌, filter, length}
use Rattle.std.specs.List.{range_with_len}
use Rattle.tail_book.specs.Numbers.{contains}
use Rattle.restricted_master.specs.Seen.{PoolSeen}
use Rattle.restricted_master.specs.Lists.{is_of, has, in_order, list_at}

-- each of m aircraft has its routes among the first so many
pub record AreOwn (pool : PoolSeen) (m count : ℕ) (lists : List (List ℕ)) : Type 0 where
  pub each : length lists ≡ m
  pub own : (k : ℕ) → k < m → list_at lists k ≡ filter (is_of pool k) (range_with_len 0 count)

-- the list of each activity has grown by those of these numbers that have it
pub record GrowBy (pool : PoolSeen) (numbers : List ℕ) (old new : List (List ℕ)) : Type 0 where
  pub each : length new ≡ length old
  pub more : (a : ℕ) → a < length old → list_at new a ≡ list_at old a ++ filter (has pool a) numbers

-- and that of each activity of a route by its number
pub record GrowByOne (route : List ℕ) (i : ℕ) (old new : List (List ℕ)) : Type 0 where
  pub each : length new ≡ length old
  pub more : (a : ℕ) → a < length old → list_at new a ≡ list_at old a ++ (if contains route a then i ∷ [] else [])

-- each of n activities has its routes, of the first m aircraft
pub record AreListedBy (pool : PoolSeen) (n m : ℕ) (lists : List (List ℕ)) : Type 0 where
  pub each : length lists ≡ n
  pub listed : (a : ℕ) → a < n → list_at lists a ≡ filter (has pool a) (in_order pool m)

-- no number stands twice in the list
abbrev pub AreApart : List ℕ → Type 0
AreApart [] = ⊤
AreApart (x ∷ xs) = (contains xs x ≡ false) × AreApart xs
