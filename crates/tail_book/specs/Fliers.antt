-- A plan as an assignment: for each activity the aircraft that flies it.
use Rattle.std.specs.Prelude.{ℕ, List, length, map, nat_eq, slice_index_or}
use Rattle.std.specs.List.{filter, position_or_len, range_with_len}
use Rattle.tail_book.specs.Numbers.{contains}

-- the number of the first route that has the activity, and the number of routes where none has it
abbrev pub flier : List (List ℕ) → ℕ → ℕ
flier plan a = position_or_len (λ route. contains route a) plan

-- the flier of each activity below n
abbrev pub fliers_of : List (List ℕ) → ℕ → List ℕ
fliers_of plan n = map (flier plan) (range_with_len 0 n)

-- the route that the fliers give aircraft k: the activities whose flier it is, in their order
abbrev pub route_by : List ℕ → ℕ → List ℕ
route_by fliers k = filter (λ a. nat_eq k (slice_index_or fliers a 0)) (range_with_len 0 (length fliers))

-- the routes that they give m aircraft
abbrev pub plan_by : List ℕ → ℕ → List (List ℕ)
plan_by fliers m = map (route_by fliers) (range_with_len 0 m)
