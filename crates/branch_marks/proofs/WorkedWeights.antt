-- Weights, bounds and sums over a pool, computed in the worked books. They show what a connection adds and where it is
-- free, duals that bound by the cost of the least plan, how a bound is rounded, and how the sum over a pool answers to
-- a change of one dual.
use Rattle.std.proofs.Common.{◌≡◌, ℕ, ℤ, pos, negsuc, List, [], ◌∷◌, map, refl, Some, None}
use Rattle.tail_book.specs.TableSeen.{CostTableSeen}
use Rattle.tail_book.specs.declared.place.Place.TheVariants.{Carry, After}
use Rattle.tail_book.specs.CostTable.{box_end, costs_of}
use Rattle.branch_marks.specs.Weights.{weight, weight_from, arc_weight}
use Rattle.branch_marks.specs.Bound.{lagrangian, bound_of, rounded_up}
use Rattle.branch_marks.specs.Pool.{Pooled, least_in, values_in, sum_in}
use Rattle.branch_marks.specs.Settled.{with_dual}
use Rattle.branch_marks.proofs.WorkedBook.{rates, banded}

abbrev table : CostTableSeen
table = costs_of rates

-- what each activity is worth where the first aircraft flies the longer flight
abbrev prices : List ℤ
prices = pos 120000 ∷ pos 180000 ∷ []

weights_of_the_first : map (weight table rates 0 prices) ([] ∷ (0 ∷ []) ∷ (1 ∷ []) ∷ []) ≡ pos 0 ∷ negsuc 59999 ∷ negsuc 59999 ∷ []
weights_of_the_first = refl

weights_of_the_second : map (weight table rates 1 prices) ([] ∷ (0 ∷ []) ∷ (1 ∷ []) ∷ []) ≡ pos 0 ∷ pos 0 ∷ pos 60000 ∷ []
weights_of_the_second = refl

added_up : weight_from table rates 0 prices Carry (1 ∷ []) ≡ negsuc 59999
added_up = refl

-- two hours at 1 a minute, and one connection of 7: that from the carry-in is free
charged : weight (costs_of banded) banded 0 [] (0 ∷ 1 ∷ []) ≡ pos 127000
charged = refl

free_of_charge : arc_weight (costs_of banded) banded 0 (pos 1000 ∷ []) Carry 0 ≡ pos 59000
free_of_charge = refl

charged_behind : arc_weight (costs_of banded) banded 0 (pos 1000 ∷ []) (After 0) 1 ≡ pos 67000
charged_behind = refl

-- beyond the band a connection is free
beyond_the_band : arc_weight (costs_of banded) banded 0 [] (After 0) 3 ≡ pos 60000
beyond_the_band = refl

-- the bound of these duals is the cost of the least plan
sum_of_the_least : lagrangian prices (negsuc 59999 ∷ pos 0 ∷ []) ≡ pos 240000
sum_of_the_least = refl

bound_of_the_least : rounded_up (pos 240000) ≡ 240
bound_of_the_least = refl

-- rounding: up to the next unit, and 0 where the sum is negative
rounding : map rounded_up (pos 0 ∷ pos 1 ∷ pos 999 ∷ pos 1000 ∷ pos 1001 ∷ negsuc 0 ∷ negsuc 4999 ∷ []) ≡ 0 ∷ 1 ∷ 1 ∷ 1 ∷ 2 ∷ 0 ∷ 0 ∷ []
rounding = refl

larger_than_0 : map bound_of (pos 7 ∷ pos 0 ∷ negsuc 7 ∷ []) ≡ 7 ∷ 0 ∷ 0 ∷ []
larger_than_0 = refl

-- a pool with the empty route and each flight for both aircraft
abbrev entry : ℕ → List ℕ → Pooled
entry k route = record { aircraft = k; route = route }

abbrev pool : List Pooled
pool = entry 0 [] ∷ entry 0 (0 ∷ []) ∷ entry 0 (1 ∷ []) ∷ entry 1 [] ∷ entry 1 (0 ∷ []) ∷ entry 1 (1 ∷ []) ∷ []

least_of_each : values_in table rates prices pool ≡ negsuc 59999 ∷ pos 0 ∷ []
least_of_each = refl

sum_over_the_pool : sum_in table rates prices pool ≡ pos 240000
sum_over_the_pool = refl

no_route_of_it : least_in table rates prices 1 (entry 0 [] ∷ entry 0 (1 ∷ []) ∷ []) ≡ None
no_route_of_it = refl

last_is_least : least_in table rates prices 0 (entry 0 [] ∷ entry 1 [] ∷ entry 0 (1 ∷ []) ∷ []) ≡ Some (negsuc 59999)
last_is_least = refl

-- from these duals a change of one does not raise the sum
lowered : sum_in table rates (with_dual prices 0 (pos 60000)) pool ≡ pos 180000
lowered = refl

raised : sum_in table rates (with_dual prices 1 (pos 240000)) pool ≡ pos 240000
raised = refl

-- over empty routes alone each dual goes to the end of the box
end_of_the_box : box_end table ≡ 4000001000
end_of_the_box = refl

empty_routes : sum_in table rates (pos 4000001000 ∷ pos 4000001000 ∷ []) (entry 0 [] ∷ entry 1 [] ∷ []) ≡ pos 8000002000
empty_routes = refl
