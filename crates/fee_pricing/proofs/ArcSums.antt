-- What links add up to along a route: with an activity at its end what its link adds more, and with fees the route's weight.
use Rattle.std.proofs.Common.{◌≡◌, ◌∙◌, ℕ, ℤ, pos, ◌+ℤ◌, arith, List, [], ◌∷◌, ◌++◌, refl, ap}
use Rattle.std.proofs.lemmas.Int.{ints}
use Rattle.tail_book.specs.Seen.{BookSeen}
use Rattle.tail_book.specs.TableSeen.{CostTableSeen}
use Rattle.tail_book.specs.declared.place.Place.{Place}
use Rattle.tail_book.specs.declared.place.Place.TheVariants.{Carry, After}
use Rattle.tail_book.specs.inside.Route.{place_after}
use Rattle.quota_rows.specs.declared.quota.Quota.{Quota}
use Rattle.quota_rows.specs.FeeWeights.{fee_arc, fee_weight, fee_weight_from, FeeWeightIsAlong}
use Rattle.fee_pricing.specs.Arcs.{arcs_from, weight_by}

alone : (z : ℤ) → (z +ℤ pos 0) ≡ (pos 0 +ℤ z)
alone z = omega (arith, ints)

moved : (here whole later last : ℤ) → whole ≡ later +ℤ last → (here +ℤ whole) ≡ ((here +ℤ later) +ℤ last)
moved here whole later last e = omega (arith, ints, e)

pub one_more : (arc : Place → ℕ → ℤ) (x : Place) (route : List ℕ) (b : ℕ)
    → arcs_from arc x (route ++ b ∷ []) ≡ arcs_from arc x route +ℤ arc (place_after x route) b
one_more arc x [] b = alone (arc x b)
one_more arc x (a ∷ rest) b =
    moved (arc x a) (arcs_from arc (After a) (rest ++ b ∷ [])) (arcs_from arc (After a) rest) (arc (place_after (After a) rest) b) (one_more arc (After a) rest b)

module _ (table : CostTableSeen) (book : BookSeen) (quotas : List Quota) (k : ℕ) (duals fees : List ℤ) where
  along : (x : Place) (route : List ℕ) → fee_weight_from table book quotas k duals fees x route ≡ arcs_from (fee_arc table book quotas k duals fees) x route
  along x [] = refl
  along x (b ∷ rest) = ap (λ (w : ℤ). fee_arc table book quotas k duals fees x b +ℤ w) (along (After b) rest)

  pub by_arcs : FeeWeightIsAlong → (route : List ℕ) → fee_weight table book quotas k duals fees route ≡ weight_by (fee_arc table book quotas k duals fees) route
  by_arcs is_along route = is_along table book quotas k duals fees route ∙ along Carry route
