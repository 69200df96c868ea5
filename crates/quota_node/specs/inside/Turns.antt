-- A turn of settling a node: its end, or routes of least weight whose sum leaves room below the target.
-- For src/bounding.rt and src/settled.rt.
use Rattle.std.specs.Prelude.{ℕ, ℤ, List}
use Rattle.tail_book.specs.Seen.{BookSeen}
use Rattle.tail_book.specs.TableSeen.{CostTableSeen}
use Rattle.branch_marks.specs.declared.fact.Fact.{Fact}
use Rattle.branch_marks.specs.Bound.{bound_of, Passes}
use Rattle.quota_rows.specs.declared.quota.Quota.{Quota}
use Rattle.quota_node.specs.QuotaNode.{IsTrueQuotaStep}
use Rattle.quota_node.specs.declared.bounding.Weighed.{Weighed}
use Rattle.quota_node.specs.declared.bounding.Weighed.TheVariants as weighed
use Rattle.quota_node.specs.declared.fee_prices.FeeRoutes.{FeeRoutes}
use Rattle.quota_node.specs.inside.FeePrices.{AreFeeRoutes}

-- the routes, and that their sum leaves room
pub record LeavesRoom (table : CostTableSeen) (book : BookSeen) (quotas : List Quota) (marks : List Fact) (duals fees : List ℤ) (target : ℕ)
    (found : FeeRoutes) : Type 0 where
  pub routes : AreFeeRoutes table book quotas marks duals fees found
  pub below : ¬ Passes (bound_of found.sum) target

-- what a look at a node under duals and fees comes to
abbrev pub IsWeighed : CostTableSeen → BookSeen → List Quota → List Fact → List ℤ → List ℤ → ℕ → Weighed → Type 0
IsWeighed table book quotas marks duals fees target (weighed.Ended step) = IsTrueQuotaStep table book quotas marks duals fees target step
IsWeighed table book quotas marks duals fees target (weighed.Open found) = LeavesRoom table book quotas marks duals fees target found
