-- Pools of a node: what pricing finds fits, and where it finds nothing that the pool lacks the least weights are the pool's.
use Rattle.std.proofs.Common.{◌≡◌, ℕ, ℤ, ◌≤ℤ◌, arith, List, length, refl, sym, ap, subst, Option, Some, None}
use Rattle.std.proofs.lemmas.Int.{ints}
use Rattle.std.proofs.lemmas.List.Elements.{All-contains, All-nil}
use Rattle.std.specs.Prelude.{All, Contains}
use Rattle.tail_book.specs.Seen.{BookSeen}
use Rattle.tail_book.specs.Lookup.{aircraft}
use Rattle.tail_book.specs.Plan.{route_of}
use Rattle.tail_book.specs.TableSeen.{CostTableSeen}
use Rattle.branch_marks.specs.declared.fact.Fact.{Fact}
use Rattle.branch_marks.specs.Bound.{AreLeastWeights, value_of}
use Rattle.branch_marks.specs.Pool.{Pooled, IsFittingEntry, least_in, IsLeastIn, LeastInIsLeast}
use Rattle.branch_marks.specs.Settled.{AreRoutesOfWeights, IsSettled, IsSettledOver, SettledOverPoolIsSettled}
use Rattle.branch_marks.specs.Weights.{weight, IsLeastWeight}
use Rattle.restricted_master.specs.Seen.{PoolSeen}
use Rattle.restricted_master.specs.Pool.{empty_pool}
use Rattle.branch_tree.specs.declared.node_bound.LeastRoutes.{LeastRoutes}
use Rattle.branch_tree.specs.declared.node_bound.Weighed.{Weighed}
use Rattle.branch_tree.specs.declared.node_bound.Weighed.TheVariants as weighed
use Rattle.branch_tree.specs.inside.NodeBound.{LeavesRoom, IsWeighedNode}
use Rattle.node_leaves.specs.inside.NewRoutes.{HasAll, AreFittingRoutes}
use Rattle.node_leaves.specs.inside.FittingPool.{IsLegalPool}

-- a pool that has no route yet
pub no_routes : (table : CostTableSeen) (book : BookSeen) (pool : PoolSeen) → pool ≡ empty_pool → IsLegalPool table book pool
no_routes table book pool is = subst (λ (p : PoolSeen). IsLegalPool table book p) (sym is) (record {
  of_book = record { aircraft = All-nil _; rising = All-nil _; costs = refl };
  legal = All-nil _;
})

-- routes that have the least weights are legal and fit
pub fitting_routes : (table : CostTableSeen) (book : BookSeen) (marks : List Fact) (duals values : List ℤ) (routes : List (List ℕ))
    → AreRoutesOfWeights table book marks duals values routes → AreFittingRoutes book marks routes
fitting_routes table book marks duals values routes are = λ k lt.
    let each = are.each k (omega (arith, lt, are.one_each)) in
    record { legal = each.legal; fits = each.fits }

module _ (lowest : LeastInIsLeast) (table : CostTableSeen) (book : BookSeen) (marks : List Fact) (duals : List ℤ) (pool : List Pooled)
    (fitting : All (IsFittingEntry book marks) pool) (k : ℕ) (value : ℤ) (least : IsLeastWeight table book marks k duals value)
    (route : List ℕ) (has : Contains pool (record { aircraft = k; route = route })) (weighs : weight table book k duals route ≡ value) where
  entry : Pooled
  entry = record { aircraft = k; route = route }

  no_lighter : (other : Pooled) → Contains pool other → other.aircraft ≡ k → value ≤ℤ weight table book k duals other.route
  no_lighter other there of_k =
      let fits = subst (λ (j : ℕ). IsFittingEntry book marks (record { aircraft = j; route = other.route })) of_k
      (All-contains (IsFittingEntry book marks) pool other fitting there) in
      least.least other.route fits.legal fits.fits

  from_least : (o : Option ℤ) → IsLeastIn table book duals k pool o → o ≡ Some value
  unfolding entry
  from_least None none = absurd (All-contains (λ (e : Pooled). ¬ (e.aircraft ≡ k)) pool entry none has refl)
  from_least (Some low) is =
      let (i, other, lt, at, both) = is.1 in
      let above = no_lighter other (i, lt, at) both.0 in
      let below : low ≤ℤ weight table book k duals route =
      All-contains (λ (e : Pooled). e.aircraft ≡ k → low ≤ℤ weight table book k duals e.route) pool entry is.0 has refl in
      ap (λ (z : ℤ). Some z) (omega (arith, ints, above, below, both.1, weighs))

  pub pool_least : least_in table book duals k pool ≡ Some value
  pool_least = from_least (least_in table book duals k pool) (lowest table book duals k pool)

-- where the pool has routes of the least weights, what is settled over it is settled
pub settled_by_pool : LeastInIsLeast → SettledOverPoolIsSettled → (table : CostTableSeen) (book : BookSeen) (marks : List Fact) (duals values : List ℤ)
    (routes : List (List ℕ)) (pool : PoolSeen) → All (IsFittingEntry book marks) pool.entries → IsSettledOver table book pool.entries duals
    → AreLeastWeights table book marks duals values → AreRoutesOfWeights table book marks duals values routes → HasAll pool routes (length routes)
    → IsSettled table book marks duals
settled_by_pool lowest law table book marks duals values routes pool fitting settled least are all =
    law table book marks pool.entries duals values fitting settled least
    (λ k lt. pool_least lowest table book marks duals pool.entries fitting k (value_of values k) (least.each k lt) (route_of routes k)
    (all k (omega (arith, lt, are.one_each))) (are.each k lt).weighs)

-- what an open look at a node found is legal and fits, and is a route of each aircraft
module _ (table : CostTableSeen) (book : BookSeen) (marks : List Fact) (duals : List ℤ) (target : ℕ) (look : Weighed) (found : LeastRoutes)
    (is : IsWeighedNode table book marks duals target look) (open_so : look ≡ weighed.Open found) (routes : List (List ℕ)) (same : routes ≡ found.routes.items) where
  pub open_found : LeavesRoom table book marks duals target found
  open_found = subst (λ (w : Weighed). IsWeighedNode table book marks duals target w) open_so is

  pub open_attained : AreRoutesOfWeights table book marks duals found.values.items routes
  open_attained = subst (λ (rs : List (List ℕ)). AreRoutesOfWeights table book marks duals found.values.items rs) (sym same) open_found.attained

  pub open_fits : AreFittingRoutes book marks routes
  open_fits = fitting_routes table book marks duals found.values.items routes open_attained

  pub open_counts : length routes ≡ aircraft book
  open_counts = open_attained.one_each
