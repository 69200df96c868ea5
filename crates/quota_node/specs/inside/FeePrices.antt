-- What pricing all aircraft with fees comes to: least weights with routes that have them, and their sum, or an aircraft that is stuck.
-- For src/fee_prices.rt.
use Rattle.std.specs.Prelude.{◌≡◌, ℕ, ℤ, ◌+◌, ◌<◌, Bool, true, false, List, length}
use Rattle.tail_book.specs.Seen.{BookSeen}
use Rattle.tail_book.specs.TableSeen.{CostTableSeen}
use Rattle.tail_book.specs.Lookup.{aircraft}
use Rattle.tail_book.specs.Plan.{route_of}
use Rattle.branch_marks.specs.declared.fact.Fact.{Fact}
use Rattle.branch_marks.specs.Bound.{value_of}
use Rattle.branch_marks.specs.DeadEnds.{IsStuck}
use Rattle.quota_rows.specs.declared.quota.Quota.{Quota}
use Rattle.quota_rows.specs.FeeBound.{AreLeastFeeWeights, fee_lagrangian}
use Rattle.quota_rows.specs.FeeWeights.{IsLeastFeeWeight, IsRouteOfFeeWeight}
use Rattle.quota_node.specs.declared.fee_prices.AllPriced.{AllPriced}
use Rattle.quota_node.specs.declared.fee_prices.AllPriced.TheVariants as priced
use Rattle.quota_node.specs.declared.fee_prices.FeeRoutes.{FeeRoutes}

-- a route for each aircraft that is legal, fits, and has the aircraft's value as its weight with fees
pub record AreRoutesOfFeeWeights (table : CostTableSeen) (book : BookSeen) (quotas : List Quota) (marks : List Fact) (duals fees values : List ℤ)
    (routes : List (List ℕ)) : Type 0 where
  pub one_each : length routes ≡ aircraft book
  pub each : (k : ℕ) → k < aircraft book → IsRouteOfFeeWeight table book quotas marks k duals fees (value_of values k) (route_of routes k)

-- the least weights, routes that have them, and the sum
pub record AreFeeRoutes (table : CostTableSeen) (book : BookSeen) (quotas : List Quota) (marks : List Fact) (duals fees : List ℤ) (found : FeeRoutes)
    : Type 0 where
  pub least : AreLeastFeeWeights table book quotas marks duals fees found.values.items
  pub attained : AreRoutesOfFeeWeights table book quotas marks duals fees found.values.items found.routes.items
  pub sum : found.sum ≡ fee_lagrangian quotas duals fees found.values.items

-- that, or an aircraft of the book that is stuck
abbrev pub AreAllPriced : CostTableSeen → BookSeen → List Quota → List Fact → List ℤ → List ℤ → AllPriced → Type 0
AreAllPriced table book quotas marks duals fees (priced.Open found) = AreFeeRoutes table book quotas marks duals fees found
AreAllPriced table book quotas marks duals fees (priced.Stuck k) = (k < aircraft book) × IsStuck book marks k

-- the least weights of the first n aircraft, and routes that have them
pub record AreFirstPriced (table : CostTableSeen) (book : BookSeen) (quotas : List Quota) (marks : List Fact) (duals fees : List ℤ) (n : ℕ)
    (values : List ℤ) (routes : List (List ℕ)) : Type 0 where
  pub count : length values ≡ n
  pub least : (j : ℕ) → j < n → IsLeastFeeWeight table book quotas marks j duals fees (value_of values j)
  pub route_count : length routes ≡ n
  pub attained : (j : ℕ) → j < n → IsRouteOfFeeWeight table book quotas marks j duals fees (value_of values j) (route_of routes j)

-- so with one aircraft more, unless it is stuck
abbrev pub PricesOneMore : CostTableSeen → BookSeen → List Quota → List Fact → List ℤ → List ℤ → ℕ → List ℤ → List (List ℕ) → Bool → Type 0
PricesOneMore table book quotas marks duals fees k values routes true = AreFirstPriced table book quotas marks duals fees (k + 1) values routes
PricesOneMore table book quotas marks duals fees k values routes false = IsStuck book marks k
