-- How often activities stand in routes, counted up to 2: that tells never, once and more often apart.
-- For src/legal_plan.rt.
use Rattle.std.specs.Prelude.{ℕ, ◌<◌, ◌≡◌, List, length, count_by, min, nat_eq, slice_index_or}

-- there stands how often each number is in the list, or 2 where it is there more often
abbrev pub AreTimes : List ℕ → List ℕ → Type 0
AreTimes times flown = (a : ℕ) → a < length times → slice_index_or times a 0 ≡ min (count_by (nat_eq a) flown) 2
