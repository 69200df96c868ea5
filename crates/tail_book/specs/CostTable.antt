-- What activities, connections, routes and plans cost by a table, in cost units, and the table of the book's own costs.
use Rattle.std.specs.Prelude.{ℕ, ℤ, pos, ◌+ℤ◌, ◌≤ℤ◌, ◌+◌, ◌*◌, ◌^◌, ◌≤◌, ◌≡◌, List, [], ◌∷◌, All, length, map, slice_index_or}
use Rattle.std.specs.List.{flat_map, range_with_len}
use Rattle.tail_book.specs.declared.limits.TheConstants.{ENTRY_LIMIT, BAND_COST_LIMIT}
use Rattle.tail_book.specs.Seen.{BookSeen}
use Rattle.tail_book.specs.TableSeen.{CostTableSeen}
use Rattle.tail_book.specs.declared.place.Place.{Place}
use Rattle.tail_book.specs.declared.place.Place.TheVariants.{Carry, After}
use Rattle.tail_book.specs.Lookup.{activities, aircraft}
use Rattle.tail_book.specs.Link.{gap}
use Rattle.tail_book.specs.Cost.{activity_cost, band_cost}

-- the number that bounds the cost of every legal plan by the table: what n activities cost at most, each with a connection
abbrev pub greatest_cost_in : CostTableSeen → ℕ
greatest_cost_in table = table.n * (table.fly_max + table.band_max)

-- thousandths in a cost unit: duals and reduced costs are counted in these
abbrev pub cost_unit : ℕ
cost_unit = 1000

-- the ends of the box of duals, in thousandths of a cost unit: a dual lies from minus this to this
abbrev pub box_end : CostTableSeen → ℕ
box_end table = cost_unit * (greatest_cost_in table + 1)

-- the dual lies in the box
pub record IsInBox (table : CostTableSeen) (dual : ℤ) : Type 0 where
  pub least : pos 0 ≤ℤ (dual +ℤ pos (box_end table))
  pub most : dual ≤ℤ pos (box_end table)

-- each entry and each band is within its maximum, and no sum of thousandths of costs and duals passes 2^61
pub record IsCostTable (table : CostTableSeen) : Type 0 where
  pub fly : All (λ cost. cost ≤ table.fly_max) table.fly
  pub bands : All (λ band. band.cost ≤ table.band_max) table.bands
  pub sums : table.n * box_end table + cost_unit * greatest_cost_in table ≤ 2 ^ 61

-- the table has the book's activities and aircraft, and an entry for each of both
pub record IsTableFor (book : BookSeen) (table : CostTableSeen) : Type 0 where
  pub activities : table.n ≡ activities book
  pub aircraft : table.m ≡ aircraft book
  pub entries : length table.fly ≡ table.n * table.m

-- an activity costs what the table has for the aircraft and it
abbrev pub activity_cost_in : CostTableSeen → ℕ → ℕ → ℕ
activity_cost_in table k a = slice_index_or table.fly (k * table.n + a) 0

-- a connection costs what the table's bands say of its gap; that from the carry-in costs nothing
abbrev pub connection_cost_in : CostTableSeen → BookSeen → ℕ → Place → ℕ → ℕ
connection_cost_in table book k Carry b = 0
connection_cost_in table book k (After x) b = band_cost table.bands (gap book k (After x) b)

-- the cost of the rest of a route from a place on
abbrev pub cost_from_in : CostTableSeen → BookSeen → ℕ → Place → List ℕ → ℕ
cost_from_in table book k x [] = 0
cost_from_in table book k x (b ∷ rest) =
    activity_cost_in table k b + connection_cost_in table book k x b + cost_from_in table book k (After b) rest

-- what a route costs an aircraft, from its carry-in on
abbrev pub route_cost_in : CostTableSeen → BookSeen → ℕ → List ℕ → ℕ
route_cost_in table book k route = cost_from_in table book k Carry route

-- the cost of the routes of aircraft k, k + 1 and so on
abbrev pub cost_of_routes_in : CostTableSeen → BookSeen → ℕ → List (List ℕ) → ℕ
cost_of_routes_in table book k [] = 0
cost_of_routes_in table book k (route ∷ routes) = route_cost_in table book k route + cost_of_routes_in table book (k + 1) routes

-- what a plan costs: its routes, each flown by the aircraft of its number
abbrev pub plan_cost_in : CostTableSeen → BookSeen → List (List ℕ) → ℕ
plan_cost_in table book plan = cost_of_routes_in table book 0 plan

-- what each activity costs aircraft k, in the book's order
abbrev pub activity_costs : BookSeen → ℕ → List ℕ
activity_costs book k = map (activity_cost book k) (range_with_len 0 (activities book))

-- the book's own costs: for each aircraft in order what each activity costs it, and the bands
abbrev pub costs_of : BookSeen → CostTableSeen
costs_of book = record {
  n = activities book;
  m = aircraft book;
  fly = flat_map (activity_costs book) (range_with_len 0 (aircraft book));
  bands = book.rules.bands;
  fly_max = ENTRY_LIMIT;
  band_max = BAND_COST_LIMIT;
}
