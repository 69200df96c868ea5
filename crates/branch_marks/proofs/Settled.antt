-- Duals that are settled over the pool are settled: before a change both sums are the same, and after it the sum over all
-- routes is at most the one over the pool, which has fewer of them.
use Rattle.std.proofs.Common.{◌≡◌, ◌∙◌, ◌<◌, ℕ, suc, ℤ, pos, ◌+ℤ◌, ◌≤ℤ◌, Bool, true, false, arith, List, [], ◌∷◌, length, get_or, refl, sym, ap, subst, Option, Some, None, if◌then◌else◌}
use Rattle.std.proofs.lemmas.Int.{ints}
use Rattle.std.proofs.lemmas.Bool.{both_ways}
use Rattle.std.proofs.lemmas.List.FromFn.{length-map-range_with_len, get_or-map-range_with_len}
use Rattle.std.specs.Prelude.{All, nat_eq, IsSome, ◌<ℤ◌}
use Rattle.std.specs.Option.{unwrap_or}
use Rattle.tail_book.specs.Seen.{BookSeen}
use Rattle.tail_book.specs.TableSeen.{CostTableSeen}
use Rattle.tail_book.specs.Lookup.{aircraft}
use Rattle.tail_book.specs.Route.{IsLegalRoute}
use Rattle.tail_book.specs.Sums.{total}
use Rattle.branch_marks.specs.declared.fact.Fact.{Fact}
use Rattle.branch_marks.specs.Marks.{Fits}
use Rattle.branch_marks.specs.Weights.{weight, WeighsAtLeast, LeastWeightsAreOne}
use Rattle.branch_marks.specs.Bound.{value_of, AreLeastWeights, lagrangian}
use Rattle.branch_marks.specs.Pool.{Pooled, least_with, least_in, values_in, IsLeastIn, IsFittingEntry, LeastInIsLeast}
use Rattle.branch_marks.specs.Settled.{with_dual, IsSettledOver, IsSettled}

-- each value at most the one at its place, and so their sums
pub total_below : (xs ys : List ℤ) → length xs ≡ length ys → ((i : ℕ) → i < length xs → get_or xs i (pos 0) ≤ℤ get_or ys i (pos 0)) → total xs ≤ℤ total ys
total_below [] [] same each = omega (arith, ints)
total_below [] (y ∷ ys) same each = absurd (omega (arith, same))
total_below (x ∷ xs) [] same each = absurd (omega (arith, same))
total_below (x ∷ xs) (y ∷ ys) same each =
    let here : x ≤ℤ y = each 0 (omega arith) in
    let rest = total_below xs ys (omega (arith, same)) (λ i lt. each (suc i) (omega (arith, lt))) in
    omega (arith, ints, here, rest)

-- whether a pool has a route of an aircraft does not depend on the duals
some_either : (b : Bool) (v w : ℤ) (one other : Option ℤ) → (IsSome one → IsSome other) → IsSome (if b then Some v else one) → IsSome (if b then Some w else other)
some_either true v w one other h s = refl
some_either false v w one other h s = h s

some_in : (table : CostTableSeen) (book : BookSeen) (duals others : List ℤ) (k : ℕ) (pool : List Pooled)
    → IsSome (least_in table book duals k pool) → IsSome (least_in table book others k pool)
some_in table book duals others k [] h = h
some_in table book duals others k (entry ∷ pool) h =
    some_either (nat_eq k entry.aircraft) (least_with (weight table book k duals entry.route) (least_in table book duals k pool))
    (least_with (weight table book k others entry.route) (least_in table book others k pool)) (least_in table book duals k pool) (least_in table book others k pool)
    (some_in table book duals others k pool) h

value_in : (o : Option ℤ) → IsSome o → (value : ℤ) × (o ≡ Some value)
value_in None h = absurd (both_ways false refl h)
value_in (Some value) h = (value, refl)

-- the sums before and after a change, of all duals and of the values of aircraft: over the pool, and over all routes
raised_step : (sum raised before after : ℤ) (values low changed pooled : ℤ) → sum ≡ before +ℤ values → raised ≡ after +ℤ changed
    → (after +ℤ pooled) <ℤ ((before +ℤ low) +ℤ pos 1000) → changed ≤ℤ pooled → low ≤ℤ values → raised <ℤ (sum +ℤ pos 1000)
raised_step sum raised before after values low changed pooled e f h less more = omega (arith, ints, e, f, h, less, more)

module _ (is_least : LeastInIsLeast) (one : LeastWeightsAreOne) (table : CostTableSeen) (book : BookSeen) (marks : List Fact) (pool : List Pooled)
    (fitting : All (IsFittingEntry book marks) pool) where
  -- what no route that fits undercuts, the least in the pool does not
  low_in : (duals : List ℤ) (k : ℕ) (low value : ℤ) → WeighsAtLeast table book marks k duals low → least_in table book duals k pool ≡ Some value → low ≤ℤ value
  low_in duals k low value weighs known =
      let least = subst (λ (o : Option ℤ). IsLeastIn table book duals k pool o) known (is_least table book duals k pool) in
      let (i, entry, lt, at, of_it) = least.1 in
      let (same, weighing) = of_it in
      let fits = subst (λ (e : Pooled). IsFittingEntry book marks e) at (fitting i entry lt) in
      let low_here = weighs entry.route (subst (λ (j : ℕ). IsLegalRoute book j entry.route) same fits.legal) (subst (λ (j : ℕ). Fits book marks j entry.route) same fits.fits) in
      subst (λ (z : ℤ). low ≤ℤ z) weighing low_here

  -- the value of an aircraft in the pool
  value_at : (duals : List ℤ) (k : ℕ) (value : ℤ) → k < aircraft book → least_in table book duals k pool ≡ Some value
      → get_or (values_in table book duals pool) k (pos 0) ≡ value
  value_at duals k value hk known =
      get_or-map-range_with_len (λ j. unwrap_or (least_in table book duals j pool) (pos 0)) 0 (aircraft book) k k (pos 0) hk (omega arith)
      ∙ ap (λ (o : Option ℤ). unwrap_or o (pos 0)) known

  values_length : (duals : List ℤ) → length (values_in table book duals pool) ≡ aircraft book
  values_length duals = length-map-range_with_len (λ k. unwrap_or (least_in table book duals k pool) (pos 0)) 0 (aircraft book)

  -- least weights under any duals are at most the values in the pool
  at_most_pooled : (duals values : List ℤ) → AreLeastWeights table book marks duals values → ((k : ℕ) → k < aircraft book → IsSome (least_in table book duals k pool))
      → total values ≤ℤ total (values_in table book duals pool)
  at_most_pooled duals values least some =
      let long = values_length duals in
      total_below values (values_in table book duals pool) (least.one_each ∙ sym long)
      (λ k lt. let hk : k < aircraft book = omega (arith, lt, least.one_each) in
      let (value, known) = value_in (least_in table book duals k pool) (some k hk) in
      rw (value_at duals k value hk known) (low_in duals k (value_of values k) value (least.each k hk).least known))

  module _ (duals values : List ℤ) (over : IsSettledOver table book pool duals) (least : AreLeastWeights table book marks duals values)
      (pooled : (k : ℕ) → k < aircraft book → least_in table book duals k pool ≡ Some (value_of values k)) where
    -- and where the pool has the least weights, they are these
    at_least_pooled : (others : List ℤ) → AreLeastWeights table book marks duals others → total (values_in table book duals pool) ≤ℤ total others
    at_least_pooled others same =
        let long = values_length duals in
        total_below (values_in table book duals pool) others (long ∙ sym same.one_each)
        (λ k lt. let hk : k < aircraft book = omega (arith, lt, long) in
        let e = value_at duals k (value_of values k) hk (pooled k hk) in
        let f = one table book marks k duals (value_of values k) (value_of others k) (least.each k hk) (same.each k hk) in
        rw (e, f) (omega (arith, ints)))

    pub is_settled : IsSettled table book marks duals
    is_settled = record {
      in_box = over.in_box;
      sum = (lagrangian duals values, (values, least, refl));
      settled = λ a lt value inside sum raised here there.
          let changed = with_dual duals a value in
          raised_step sum raised (total duals) (total changed) (total here.0) (total (values_in table book duals pool)) (total there.0)
          (total (values_in table book changed pool)) here.2 there.2 (over.settled a lt value inside)
          (at_most_pooled changed there.0 there.1 (λ k hk. some_in table book duals changed k pool (over.routes k hk)))
          (at_least_pooled here.0 here.1);
    }
