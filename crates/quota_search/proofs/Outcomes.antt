-- What the best plan is where no marks leave a cheaper one: a least one, and where there is none, no plan is kept.
use Rattle.std.proofs.Common.{◌≡◌, ◌<◌, ℕ, arith, List, [], subst, Option, Some, None}
use Rattle.tail_book.specs.Seen.{BookSeen}
use Rattle.tail_book.specs.TableSeen.{CostTableSeen}
use Rattle.tail_book.specs.CostTable.{IsCostTable, IsTableFor, costs_of, greatest_cost_in}
use Rattle.tail_book.specs.Truth.{CostsAtLeastIn, IsPlanIn}
use Rattle.tail_book.specs.inside.Sound.{IsBook}
use Rattle.node_leaves.specs.Target.{IsBest}
use Rattle.quota_rows.specs.FeeBound.{MarkedKeptPlansCostAtLeast}
use Rattle.quota_rows.specs.KeptPlans.{HasNoKeptPlan, IsLeastKept, IsLeastKeptIn, KeepsQuotas}
use Rattle.quota_rows.specs.declared.quota.Quota.{Quota}
use Rattle.quota_split.specs.NodeEnds.{EmptyRootsEnd, RootsEnd}
use Rattle.quota_node.specs.QuotaNode.{KeepsWherePlanned}
use Rattle.quota_search.specs.inside.Kept.{LeastPlansAreLeastKept, OwnCostsKeepLeastKept}

-- a least plan that keeps the quotas is a least one of those that do
pub kept_least : OwnCostsKeepLeastKept → LeastPlansAreLeastKept → (table : CostTableSeen) (book : BookSeen) (quotas : List Quota) (cost : ℕ)
    (plan : List (List ℕ)) → table ≡ costs_of book → IsPlanIn table book cost plan → CostsAtLeastIn table book cost → KeepsQuotas book quotas plan
    → IsLeastKept book quotas cost plan
kept_least own least table book quotas cost plan is costs low keeps =
    own book quotas cost plan (subst (λ (t : CostTableSeen). IsLeastKeptIn t book quotas cost plan) is (least table book quotas cost plan costs low keeps))

module _ (table : CostTableSeen) (book : BookSeen) (quotas : List Quota) (target : ℕ) (closed : MarkedKeptPlansCostAtLeast table book quotas [] target) where
  pub least_plan : OwnCostsKeepLeastKept → RootsEnd → table ≡ costs_of book → (best : Option (List (List ℕ))) (plan : List (List ℕ)) → best ≡ Some plan
      → IsBest table book best target → KeepsWherePlanned book quotas best → IsLeastKept book quotas target plan
  least_plan own roots is best plan found costs keeps =
      let of_cost = subst (λ (o : Option (List (List ℕ))). IsBest table book o target) found costs in
      let kept = subst (λ (o : Option (List (List ℕ))). KeepsWherePlanned book quotas o) found keeps in
      own book quotas target plan (subst (λ (t : CostTableSeen). IsLeastKeptIn t book quotas target plan) is
      (roots table book quotas target closed plan (record { legal = of_cost.legal; keeps = kept }) of_cost.costs))

  pub no_plan : EmptyRootsEnd → IsBook book → IsCostTable table → IsTableFor book table → (best : Option (List (List ℕ))) → best ≡ None
      → IsBest table book best target → HasNoKeptPlan book quotas
  no_plan roots is_book sound for best none costs =
      let nothing = subst (λ (o : Option (List (List ℕ))). IsBest table book o target) none costs in
      let above : greatest_cost_in table < target = omega (arith, nothing) in
      roots table book is_book sound for quotas target above closed
