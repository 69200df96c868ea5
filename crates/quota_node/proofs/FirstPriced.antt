-- Aircraft that are priced one after the other: with one more behind them they are again, and with all of them they are all priced.
use Rattle.std.proofs.Common.{◌≡◌, ◌∙◌, ◌+◌, ℕ, ℤ, pos, List, [], ◌∷◌, ◌++◌, arith}
use Rattle.tail_book.specs.Seen.{BookSeen}
use Rattle.tail_book.specs.TableSeen.{CostTableSeen}
use Rattle.tail_book.specs.Lookup.{aircraft}
use Rattle.branch_marks.specs.declared.fact.Fact.{Fact}
use Rattle.quota_rows.specs.declared.quota.Quota.{Quota}
use Rattle.quota_rows.specs.FeeBound.{AreLeastFeeWeights}
use Rattle.quota_rows.specs.FeeWeights.{IsLeastFeeWeight, IsRouteOfFeeWeight}
use Rattle.node_leaves.proofs.Values.{one_longer, one_more, two_more}
use Rattle.quota_node.specs.inside.FeePrices.{AreFirstPriced, AreRoutesOfFeeWeights}

module _ (table : CostTableSeen) (book : BookSeen) (quotas : List Quota) (marks : List Fact) (duals fees : List ℤ) where
  -- one aircraft more
  pub with_one_more : (k : ℕ) (values new_values : List ℤ) (routes new_routes : List (List ℕ)) (value : ℤ) (route : List ℕ)
      → AreFirstPriced table book quotas marks duals fees k values routes → new_values ≡ values ++ value ∷ [] → new_routes ≡ routes ++ route ∷ []
      → IsLeastFeeWeight table book quotas marks k duals fees value → IsRouteOfFeeWeight table book quotas marks k duals fees value route
      → AreFirstPriced table book quotas marks duals fees (k + 1) new_values new_routes
  with_one_more k values new_values routes new_routes value route are values_are routes_are least attained = record {
    count = one_longer values new_values k value are.count values_are;
    least = one_more (pos 0) (λ (j : ℕ) (z : ℤ). IsLeastFeeWeight table book quotas marks j duals fees z)
        values new_values k value are.count values_are are.least least;
    route_count = one_longer routes new_routes k route are.route_count routes_are;
    attained = two_more (pos 0) [] (λ (j : ℕ) (z : ℤ) (r : List ℕ). IsRouteOfFeeWeight table book quotas marks j duals fees z r)
        values new_values routes new_routes k value route are.count are.route_count values_are routes_are are.attained attained;
  }

  module _ (n : ℕ) (values : List ℤ) (routes : List (List ℕ)) (are : AreFirstPriced table book quotas marks duals fees n values routes)
      (all : n ≡ aircraft book) where
    -- all aircraft
    pub all_least : AreLeastFeeWeights table book quotas marks duals fees values
    all_least = record { one_each = are.count ∙ all; each = λ j less. are.least j (omega (arith, less, all)) }

    pub all_attained : AreRoutesOfFeeWeights table book quotas marks duals fees values routes
    all_attained = record { one_each = are.route_count ∙ all; each = λ j less. are.attained j (omega (arith, less, all)) }
