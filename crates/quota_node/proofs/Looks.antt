-- What an open look at a node found: routes that are legal and fit, one for each aircraft.
use Rattle.std.proofs.Common.{◌≡◌, ℕ, ℤ, List, length, subst, sym}
use Rattle.tail_book.specs.Seen.{BookSeen}
use Rattle.tail_book.specs.TableSeen.{CostTableSeen}
use Rattle.tail_book.specs.Lookup.{aircraft}
use Rattle.branch_marks.specs.declared.fact.Fact.{Fact}
use Rattle.node_leaves.specs.inside.NewRoutes.{AreFittingRoutes}
use Rattle.quota_rows.specs.declared.quota.Quota.{Quota}
use Rattle.quota_node.specs.declared.bounding.Weighed.{Weighed}
use Rattle.quota_node.specs.declared.bounding.Weighed.TheVariants as weighed
use Rattle.quota_node.specs.declared.fee_prices.FeeRoutes.{FeeRoutes}
use Rattle.quota_node.specs.inside.FeePrices.{AreRoutesOfFeeWeights}
use Rattle.quota_node.specs.inside.Turns.{IsWeighed, LeavesRoom}
use Rattle.quota_node.proofs.FoundRoutes.{fitting}

module _ (table : CostTableSeen) (book : BookSeen) (quotas : List Quota) (marks : List Fact) (duals fees : List ℤ) (target : ℕ) (look : Weighed)
    (found : FeeRoutes) (is : IsWeighed table book quotas marks duals fees target look) (open_so : look ≡ weighed.Open found)
    (routes : List (List ℕ)) (same : routes ≡ found.routes.items) where
  pub open_found : LeavesRoom table book quotas marks duals fees target found
  open_found = subst (λ (w : Weighed). IsWeighed table book quotas marks duals fees target w) open_so is

  pub open_attained : AreRoutesOfFeeWeights table book quotas marks duals fees found.values.items routes
  open_attained = subst (λ (rs : List (List ℕ)). AreRoutesOfFeeWeights table book quotas marks duals fees found.values.items rs) (sym same)
      open_found.routes.attained

  pub open_fits : AreFittingRoutes book marks routes
  open_fits = fitting table book quotas marks duals fees found.values.items routes open_attained

  pub open_counts : length routes ≡ aircraft book
  open_counts = open_attained.one_each
