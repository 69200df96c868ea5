-- Routes that have the least weights with fees: they are legal and fit, and where a pool has them all, what is settled over it is settled.
use Rattle.std.proofs.Common.{◌≡◌, ◌∙◌, ◌<◌, ℕ, ℤ, List, [], length, arith, ap}
use Rattle.std.proofs.lemmas.List.{get_or_default}
use Rattle.std.specs.Prelude.{All}
use Rattle.tail_book.specs.Seen.{BookSeen}
use Rattle.tail_book.specs.TableSeen.{CostTableSeen}
use Rattle.tail_book.specs.Lookup.{aircraft}
use Rattle.branch_marks.specs.declared.fact.Fact.{Fact}
use Rattle.branch_marks.specs.Bound.{value_of}
use Rattle.branch_marks.specs.Pool.{IsFittingEntry, Pooled}
use Rattle.dive_heuristic.specs.LeastRoutes.{AreRoutesOfFleet}
use Rattle.restricted_master.specs.Pool.{entry_at}
use Rattle.restricted_master.specs.Seen.{PoolSeen}
use Rattle.node_leaves.specs.inside.NewRoutes.{AreFittingRoutes, HasAll, entry_of}
use Rattle.quota_rows.specs.declared.quota.Quota.{Quota}
use Rattle.quota_rows.specs.FeeBound.{AreLeastFeeWeights}
use Rattle.quota_rows.specs.FeeWeights.{fee_weight}
use Rattle.fee_master.specs.PoolSum.{IsPooledAt}
use Rattle.fee_master.specs.SettledFees.{IsSettledOverPool, IsSettledWithFees, SettledOverPoolIsSettled}
use Rattle.quota_node.specs.inside.FeePrices.{AreRoutesOfFeeWeights}

module _ (table : CostTableSeen) (book : BookSeen) (quotas : List Quota) (marks : List Fact) (duals fees values : List ℤ) (routes : List (List ℕ))
    (are : AreRoutesOfFeeWeights table book quotas marks duals fees values routes) where
  pub of_fleet : AreRoutesOfFleet book marks routes
  of_fleet = record { one_each = are.one_each; legal = λ k lt. (are.each k lt).legal; fits = λ k lt. (are.each k lt).fits }

  pub fitting : AreFittingRoutes book marks routes
  fitting = λ k lt. let each = are.each k (omega (arith, lt, are.one_each)) in record { legal = each.legal; fits = each.fits }

  module _ (pool : PoolSeen) (all : HasAll pool routes (length routes)) where
    -- the pool has the least weight of each aircraft
    pub pooled : (k : ℕ) → k < aircraft book → IsPooledAt table book quotas pool duals fees k (value_of values k)
    pooled k lt =
        let (i, less, at) = all k (omega (arith, lt, are.one_each)) in
        let is : entry_at pool i ≡ entry_of routes k = get_or_default pool.entries i (record { aircraft = 0; route = [] }) (entry_of routes k) less ∙ at in (
          i,
          less,
          ap (λ (e : Pooled). e.aircraft) is,
          ap (λ (e : Pooled). fee_weight table book quotas e.aircraft duals fees e.route) is ∙ (are.each k lt).weighs,
        )

    pub settled_by_pool : SettledOverPoolIsSettled → All (IsFittingEntry book marks) pool.entries → IsSettledOverPool table book quotas pool duals fees
        → AreLeastFeeWeights table book quotas marks duals fees values → IsSettledWithFees table book quotas marks duals fees
    settled_by_pool law fits settled least = law table book quotas marks pool duals fees values fits settled least pooled
