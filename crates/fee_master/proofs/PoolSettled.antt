-- Duals and fees that are settled over the pool are settled: before a change both sums are the same, since the pool has the least routes,
-- and after it the sum over all routes is at most the one over the pool, which has fewer of them.
use Rattle.std.proofs.Common.{◌≡◌, ◌∙◌, ◌<◌, ◌+ℤ◌, ◌-ℤ◌, ◌≤ℤ◌, ℕ, ℤ, pos, true, arith, List, [], length, get_or, sym, refl, ap, subst}
use Rattle.std.proofs.lemmas.Int.{ints}
use Rattle.std.proofs.lemmas.Bool.{eq-eqb, eqb-true}
use Rattle.std.proofs.lemmas.List.{get_or_default}
use Rattle.std.proofs.lemmas.List.FromFn.{length-map-range_with_len, get_or-map-range_with_len}
use Rattle.std.specs.Prelude.{All, ◌<ℤ◌}
use Rattle.tail_book.specs.Seen.{BookSeen}
use Rattle.tail_book.specs.TableSeen.{CostTableSeen}
use Rattle.tail_book.specs.Lookup.{aircraft}
use Rattle.tail_book.specs.Route.{IsLegalRoute}
use Rattle.tail_book.specs.Sums.{total}
use Rattle.branch_marks.specs.declared.fact.Fact.{Fact}
use Rattle.branch_marks.specs.Marks.{Fits}
use Rattle.branch_marks.specs.Bound.{value_of}
use Rattle.branch_marks.specs.Pool.{Pooled, IsFittingEntry}
use Rattle.branch_marks.specs.Settled.{with_dual}
use Rattle.branch_marks.proofs.Settled.{total_below}
use Rattle.restricted_master.specs.Seen.{PoolSeen}
use Rattle.restricted_master.specs.Lists.{is_of}
use Rattle.restricted_master.specs.Pool.{aircraft_at, entry_at, route_at, HasRoutes}
use Rattle.quota_rows.specs.declared.quota.Quota.{Quota}
use Rattle.quota_rows.specs.FeeBound.{AreLeastFeeWeights, fee_lagrangian}
use Rattle.quota_rows.specs.FeeWeights.{IsLeastFeeWeight, WeighsAtLeastWithFees, fee_weight}
use Rattle.quota_rows.specs.Fees.{fees_at_most}
use Rattle.fee_master.specs.PoolSum.{fee_value_in, fee_values_in, fee_weight_at, IsPooledAt}
use Rattle.fee_master.specs.SettledFees.{with_fee, IsSettledOverPool, IsSettledWithFees}
use Rattle.fee_master.proofs.Least.{value_is, value_is_least}

raised_step : (sum raised duals later values low changed pooled most after : ℤ) → sum ≡ (duals +ℤ values) -ℤ most → raised ≡ (later +ℤ changed) -ℤ after
    → ((later +ℤ pooled) -ℤ after) <ℤ (((duals +ℤ low) -ℤ most) +ℤ pos 1000) → changed ≤ℤ pooled → low ≤ℤ values → raised <ℤ (sum +ℤ pos 1000)
raised_step sum raised duals later values low changed pooled most after e f h less more = omega (arith, ints, e, f, h, less, more)

module _ (table : CostTableSeen) (book : BookSeen) (quotas : List Quota) (marks : List Fact) (pool : PoolSeen) (fitting : All (IsFittingEntry book marks) pool.entries) where
  -- what no legal route that fits undercuts, no route of the pool does
  low_at : (duals fees : List ℤ) (k : ℕ) (low : ℤ) → WeighsAtLeastWithFees table book quotas marks k duals fees low
      → (i : ℕ) → i < length pool.entries → is_of pool k i ≡ true → low ≤ℤ fee_weight_at table book quotas pool duals fees i
  low_at duals fees k low weighs i lt pass =
      let e : k ≡ aircraft_at pool i = eqb-true k (aircraft_at pool i) pass in
      let fits : IsFittingEntry book marks (entry_at pool i) = fitting i (record { aircraft = 0; route = [] }) lt in
      subst (λ (j : ℕ). low ≤ℤ fee_weight table book quotas j duals fees (route_at pool i)) e
      (weighs (route_at pool i) (subst (λ (j : ℕ). IsLegalRoute book j (route_at pool i)) (sym e) fits.legal)
      (subst (λ (j : ℕ). Fits book marks j (route_at pool i)) (sym e) fits.fits))

  pub pooled_least : (duals fees : List ℤ) (k : ℕ) (value : ℤ) → IsLeastFeeWeight table book quotas marks k duals fees value
      → IsPooledAt table book quotas pool duals fees k value → fee_value_in table book quotas pool duals fees k ≡ value
  pooled_least duals fees k value least (i, lt, of_it, is) =
      value_is (is_of pool k) (fee_weight_at table book quotas pool duals fees) (length pool.entries) value
      (low_at duals fees k value least.least) (i, lt, eq-eqb k (aircraft_at pool i) (sym of_it), is)

  some_route : HasRoutes book pool → (k : ℕ) → k < aircraft book → (i : ℕ) × (i < length pool.entries) × (is_of pool k i ≡ true)
  some_route routes k lt =
      let (i, entry, below, at, of_it) = routes k lt in
      let same : entry_at pool i ≡ entry = get_or_default pool.entries i (record { aircraft = 0; route = [] }) entry below ∙ at in
      (i, below, eq-eqb k (aircraft_at pool i) (sym (ap (λ (x : Pooled). x.aircraft) same ∙ of_it)))

  low_in : (duals fees : List ℤ) (k : ℕ) (low : ℤ) → HasRoutes book pool → k < aircraft book → WeighsAtLeastWithFees table book quotas marks k duals fees low
      → low ≤ℤ fee_value_in table book quotas pool duals fees k
  low_in duals fees k low routes lt weighs =
      let least = value_is_least (is_of pool k) (fee_weight_at table book quotas pool duals fees) (length pool.entries) (some_route routes k lt) in
      let (i, below, pass, is) = least.1 in
      subst (λ (z : ℤ). low ≤ℤ z) is (low_at duals fees k low weighs i below pass)

  long : (duals fees : List ℤ) → length (fee_values_in table book quotas pool duals fees) ≡ aircraft book
  long duals fees = length-map-range_with_len (fee_value_in table book quotas pool duals fees) 0 (aircraft book)

  value_here : (duals fees : List ℤ) (k : ℕ) → k < aircraft book
      → get_or (fee_values_in table book quotas pool duals fees) k (pos 0) ≡ fee_value_in table book quotas pool duals fees k
  value_here duals fees k lt = get_or-map-range_with_len (fee_value_in table book quotas pool duals fees) 0 (aircraft book) k k (pos 0) lt (omega arith)

  -- least weights under any duals and fees are at most the values in the pool
  at_most_pooled : (duals fees values : List ℤ) → HasRoutes book pool → AreLeastFeeWeights table book quotas marks duals fees values
      → total values ≤ℤ total (fee_values_in table book quotas pool duals fees)
  at_most_pooled duals fees values routes least =
      total_below values (fee_values_in table book quotas pool duals fees) (least.one_each ∙ sym (long duals fees))
      (λ k lt. let hk : k < aircraft book = omega (arith, lt, least.one_each) in
      subst (λ (z : ℤ). value_of values k ≤ℤ z) (sym (value_here duals fees k hk)) (low_in duals fees k (value_of values k) routes hk (least.each k hk).least))

  module _ (duals fees values : List ℤ) (over : IsSettledOverPool table book quotas pool duals fees) (least : AreLeastFeeWeights table book quotas marks duals fees values)
      (pooled : (k : ℕ) → k < aircraft book → IsPooledAt table book quotas pool duals fees k (value_of values k)) where
    -- and where the pool has the least routes, they are these
    at_least_pooled : (others : List ℤ) → AreLeastFeeWeights table book quotas marks duals fees others
        → total (fee_values_in table book quotas pool duals fees) ≤ℤ total others
    at_least_pooled others same =
        total_below (fee_values_in table book quotas pool duals fees) others (long duals fees ∙ sym same.one_each)
        (λ k lt. let hk : k < aircraft book = omega (arith, lt, long duals fees) in
        let (route, of_it) = (same.each k hk).attained in
        let e = value_here duals fees k hk ∙ pooled_least duals fees k (value_of values k) (least.each k hk) (pooled k hk) in
        subst (λ (z : ℤ). z ≤ℤ value_of others k) (sym e)
        (subst (λ (z : ℤ). value_of values k ≤ℤ z) of_it.weighs ((least.each k hk).least route of_it.legal of_it.fits)))

    pub is_settled : IsSettledWithFees table book quotas marks duals fees
    is_settled = record {
      duals_of = over.duals_of;
      fees_of = over.fees_of;
      sum = (fee_lagrangian quotas duals fees values, (values, least, refl));
      each_dual = λ a lt value inside sum raised here there.
          raised_step sum raised (total duals) (total (with_dual duals a value)) (total here.0) (total (fee_values_in table book quotas pool duals fees)) (total there.0)
          (total (fee_values_in table book quotas pool (with_dual duals a value) fees)) (fees_at_most quotas fees) (fees_at_most quotas fees) here.2 there.2 (over.each_dual a lt value inside)
          (at_most_pooled (with_dual duals a value) fees there.0 over.routes there.1) (at_least_pooled here.0 here.1);
      each_fee = λ q lt value inside sum raised here there.
          raised_step sum raised (total duals) (total duals) (total here.0) (total (fee_values_in table book quotas pool duals fees)) (total there.0)
          (total (fee_values_in table book quotas pool duals (with_fee fees q value))) (fees_at_most quotas fees) (fees_at_most quotas (with_fee fees q value)) here.2 there.2
          (over.each_fee q lt value inside)
          (at_most_pooled duals (with_fee fees q value) there.0 over.routes there.1) (at_least_pooled here.0 here.1);
    }
