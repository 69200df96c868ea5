-- The weight of a route: its reduced cost under duals, one for each activity. Duals and weights are in thousandths of a cost unit.
-- For src/laws/route_weights.rt.
use Rattle.std.specs.Prelude.{◌≡◌, ℕ, ℤ, pos, ◌+◌, ◌*◌, ◌+ℤ◌, ◌-ℤ◌, ◌≤ℤ◌, ◌⊎◌, List, [], ◌∷◌, ◌++◌, map, slice_index_or}
use Rattle.tail_book.specs.Seen.{BookSeen}
use Rattle.tail_book.specs.TableSeen.{CostTableSeen}
use Rattle.tail_book.specs.declared.place.Place.{Place}
use Rattle.tail_book.specs.declared.place.Place.TheVariants.{Carry, After}
use Rattle.tail_book.specs.CostTable.{cost_unit, activity_cost_in, connection_cost_in, cost_from_in, route_cost_in}
use Rattle.tail_book.specs.inside.OneMore.{end_place}
use Rattle.tail_book.specs.Route.{IsLegalRoute}
use Rattle.tail_book.specs.inside.Sound.{IsBook}
use Rattle.tail_book.specs.Sums.{total}
use Rattle.branch_marks.specs.declared.fact.Fact.{Fact}
use Rattle.branch_marks.specs.DeadEnds.{IsStuck}
use Rattle.branch_marks.specs.Marks.{Fits}

-- the dual of an activity, 0 past the end
abbrev pub dual : List ℤ → ℕ → ℤ
dual duals a = slice_index_or duals a (pos 0)

-- the duals of a route's activities, all together
abbrev pub duals_on : List ℤ → List ℕ → ℤ
duals_on duals route = total (map (dual duals) route)

-- the weight of a route of aircraft k: what it costs by the table, less its duals
abbrev pub weight : CostTableSeen → BookSeen → ℕ → List ℤ → List ℕ → ℤ
weight table book k duals route = pos (cost_unit * route_cost_in table book k route) -ℤ duals_on duals route

-- what b after x adds to it
abbrev pub arc_weight : CostTableSeen → BookSeen → ℕ → List ℤ → Place → ℕ → ℤ
arc_weight table book k duals x b = pos (cost_unit * (activity_cost_in table k b + connection_cost_in table book k x b)) -ℤ dual duals b

-- the weight of the rest of a route from a place on, added up along it
abbrev pub weight_from : CostTableSeen → BookSeen → ℕ → List ℤ → Place → List ℕ → ℤ
weight_from table book k duals x [] = pos 0
weight_from table book k duals x (b ∷ rest) = arc_weight table book k duals x b +ℤ weight_from table book k duals (After b) rest

-- what is added up from a place on is the cost from there on, less the duals
abbrev pub WeightsAlong : Type 0
WeightsAlong = (table : CostTableSeen) (book : BookSeen) (k : ℕ) (duals : List ℤ) (x : Place) (route : List ℕ)
    → weight_from table book k duals x route ≡ pos (cost_unit * cost_from_in table book k x route) -ℤ duals_on duals route

-- so a route weighs what is added up along it from the carry-in on
abbrev pub WeightIsAlong : Type 0
WeightIsAlong = (table : CostTableSeen) (book : BookSeen) (k : ℕ) (duals : List ℤ) (route : List ℕ)
    → weight table book k duals route ≡ weight_from table book k duals Carry route

-- with b at its end it weighs what b adds more
abbrev pub WeightWithOneMore : Type 0
WeightWithOneMore = (table : CostTableSeen) (book : BookSeen) (k : ℕ) (duals : List ℤ) (route : List ℕ) (b : ℕ)
    → weight table book k duals (route ++ b ∷ []) ≡ weight table book k duals route +ℤ arc_weight table book k duals (end_place route) b

-- every legal route of aircraft k that fits the marks weighs at least this
abbrev pub WeighsAtLeast : CostTableSeen → BookSeen → List Fact → ℕ → List ℤ → ℤ → Type 0
WeighsAtLeast table book marks k duals low =
    (route : List ℕ) → IsLegalRoute book k route → Fits book marks k route → low ≤ℤ weight table book k duals route

-- the route of aircraft k is legal, fits the marks, and weighs this
pub record IsRouteOfWeight (table : CostTableSeen) (book : BookSeen) (marks : List Fact) (k : ℕ) (duals : List ℤ) (value : ℤ) (route : List ℕ) : Type 0 where
  pub legal : IsLegalRoute book k route
  pub fits : Fits book marks k route
  pub weighs : weight table book k duals route ≡ value

-- the least weight of aircraft k: no legal route that fits weighs less, and one weighs this
pub record IsLeastWeight (table : CostTableSeen) (book : BookSeen) (marks : List Fact) (k : ℕ) (duals : List ℤ) (value : ℤ) : Type 0 where
  pub least : WeighsAtLeast table book marks k duals value
  pub attained : (route : List ℕ) × IsRouteOfWeight table book marks k duals value route

-- there is one least weight at most
abbrev pub LeastWeightsAreOne : Type 0
LeastWeightsAreOne = (table : CostTableSeen) (book : BookSeen) (marks : List Fact) (k : ℕ) (duals : List ℤ) (one other : ℤ)
    → IsLeastWeight table book marks k duals one → IsLeastWeight table book marks k duals other → one ≡ other

-- and an aircraft that is not stuck has one
abbrev pub LeastWeightsExist : Type 0
LeastWeightsExist = (table : CostTableSeen) (book : BookSeen) → IsBook book → (marks : List Fact) (k : ℕ) (duals : List ℤ)
    → IsStuck book marks k ⊎ ((value : ℤ) × IsLeastWeight table book marks k duals value)
