-- What holds of weights that links add up to, said of weights with fees.
use Rattle.std.proofs.Common.{◌≡◌, ◌∙◌, ℕ, ℤ, ◌≤ℤ◌, List, ◌∷◌, Some, ap, sym, subst}
use Rattle.tail_book.specs.Seen.{BookSeen}
use Rattle.tail_book.specs.TableSeen.{CostTableSeen}
use Rattle.tail_book.specs.inside.Route.{counters_after}
use Rattle.branch_marks.specs.declared.fact.Fact.{Fact}
use Rattle.label_store.specs.Seen.{StoreSeen}
use Rattle.pricing.specs.Rows.{route_to}
use Rattle.quota_rows.specs.declared.quota.Quota.{Quota}
use Rattle.quota_rows.specs.FeeWeights.{fee_arc, fee_weight, IsRouteOfFeeWeight, IsLeastFeeWeight}
use Rattle.fee_pricing.specs.Arcs.{weight_by, WeighsAtLeastBy, IsRouteOfWeightBy}
use Rattle.fee_pricing.specs.Price.{AreSpelledWithFees}
use Rattle.fee_pricing.specs.inside.Laws.{FeeWeightIsByArcs}
use Rattle.fee_pricing.specs.inside.Truth.{AreTrue}

module _ (by_arcs : FeeWeightIsByArcs) (table : CostTableSeen) (book : BookSeen) (quotas : List Quota) (marks : List Fact) (k : ℕ) (duals fees : List ℤ) where
  abbrev with_fees : List ℕ → ℤ
  with_fees route = fee_weight table book quotas k duals fees route

  same : (route : List ℕ) → with_fees route ≡ weight_by (fee_arc table book quotas k duals fees) route
  same route = by_arcs table book quotas k duals fees route

  pub spelled : (store : StoreSeen) → AreTrue (fee_arc table book quotas k duals fees) book marks k store
      → AreSpelledWithFees table book quotas marks k duals fees store
  spelled store truths j kept = let truth = truths j kept in record {
    legal = truth.legal;
    usable = truth.usable;
    values = truth.values ∙ ap (λ (w : ℤ). w ∷ counters_after book k (route_to store (Some j))) (sym (same (route_to store (Some j))));
  }

  attained : (value : ℤ) (route : List ℕ) → IsRouteOfWeightBy (fee_arc table book quotas k duals fees) book marks k value route
      → IsRouteOfFeeWeight table book quotas marks k duals fees value route
  attained value route is = record { legal = is.legal; fits = is.fits; weighs = same route ∙ is.weighs }

  pub least : (value : ℤ) (route : List ℕ) → WeighsAtLeastBy (fee_arc table book quotas k duals fees) book marks k value
      × IsRouteOfWeightBy (fee_arc table book quotas k duals fees) book marks k value route
      → IsLeastFeeWeight table book quotas marks k duals fees value × IsRouteOfFeeWeight table book quotas marks k duals fees value route
  least value route h = (
    record {
      least = λ other legal fits. subst (λ (w : ℤ). value ≤ℤ w) (sym (same other)) (h.0 other legal fits);
      attained = (route, attained value route h.1);
    },
    attained value route h.1,
  )
