use Rattle.std.proofs.Common.{◌≡◌, ◌<◌, ℕ, length}
use Rattle.branch_marks.specs.Bound.{value_of}
use Rattle.branch_marks.specs.Weights.{IsLeastWeight, IsRouteOfWeight}
use Rattle.tail_book.specs.Plan.{route_of}
use Rattle.node_leaves.specs.inside.Leaf.{IsReady}
use Rattle.node_leaves.proofs.node_pricer.NodePricer.price_all.Given as goal

-- the aircraft before k are priced
abbrev pub invariant-loop-k : goal.invariant-loop-k
invariant-loop-k l = record {
  count : length l.values.items ≡ l.k;
  least : (j : ℕ) → j < l.k → IsLeastWeight l.table l.book l.marks.facts j l.duals.values (value_of l.values.items j);
  route_count : length l.routes.items ≡ l.k;
  attained : (j : ℕ) → j < l.k → IsRouteOfWeight l.table l.book l.marks.facts j l.duals.values (value_of l.values.items j) (route_of l.routes.items j);
  ready : IsReady l.table l.book l.net l.marks l.self;
}
