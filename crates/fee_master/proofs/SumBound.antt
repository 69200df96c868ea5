-- The most that a sum over a pool comes to: no dual and no weight leaves 2^62, and fees take away.
use Rattle.std.proofs.Common.{◌<◌, ◌*◌, ◌≤ℤ◌, ℕ, zero, suc, ℤ, pos, arith, Bool, true, false, List, [], ◌∷◌, length, Option, Some, None}
use Rattle.std.proofs.lemmas.Int.{ints, clamps}
use Rattle.std.proofs.lemmas.List.Elements.{All-head, All-tail}
use Rattle.std.specs.Prelude.{All, if◌then◌else◌}
use Rattle.std.specs.Option.{unwrap_or}
use Rattle.tail_book.specs.Lookup.{aircraft}
use Rattle.tail_book.specs.Sums.{total, sum_below}
use Rattle.branch_marks.specs.Pool.{least_with}
use Rattle.branch_marks.specs.Settled.{AreDuals}
use Rattle.restricted_master.specs.Lists.{is_of}
use Rattle.quota_rows.specs.Fees.{AreFees, fees_at_most}
use Rattle.quota_rows.specs.declared.quota.Quota.{Quota}
use Rattle.fee_master.specs.PoolSum.{fee_value_in, fee_values_in, fee_weight_at, least_below}
use Rattle.fee_master.specs.declared.fixed.Fixed.{Fixed}
use Rattle.fee_master.specs.inside.Settling.{ArePricesFair, greatest_sum, sum_for}
use Rattle.fee_master.proofs.BelowSums.{total_of_map}
use Rattle.fee_master.proofs.Products.{no_less}

one_more : (t : Bool) (o : Option ℤ) (w : ℤ) → w ≤ℤ pos 4611686018427387904 → unwrap_or o (pos 0) ≤ℤ pos 4611686018427387904
    → unwrap_or (if t then Some (least_with w o) else o) (pos 0) ≤ℤ pos 4611686018427387904
one_more true None w le rest = le
one_more true (Some v) w le rest = omega (arith, ints, clamps, le, rest)
one_more false o w le rest = rest

least_most : (p : ℕ → Bool) (f : ℕ → ℤ) (n : ℕ) → ((i : ℕ) → i < n → f i ≤ℤ pos 4611686018427387904) → unwrap_or (least_below p f n) (pos 0) ≤ℤ pos 4611686018427387904
least_most p f zero each = omega (arith, ints)
least_most p f (suc n) each = one_more (p n) (least_below p f n) (f n) (each n (omega arith)) (least_most p f n (λ i lt. each i (omega (arith, lt))))

below_most : (n : ℕ) (f : ℕ → ℤ) → ((a : ℕ) → a < n → f a ≤ℤ pos 4611686018427387904) → sum_below n f ≤ℤ pos (n * 4611686018427387904)
below_most zero f each = omega (arith, ints)
below_most (suc n) f each =
    let here = each 0 (omega arith) in
    let rest = below_most n (λ a. f (suc a)) (λ a lt. each (suc a) (omega (arith, lt))) in
    omega (arith, ints, here, rest)

total_most : (xs : List ℤ) → All (λ x. x ≤ℤ pos 4611686018427387904) xs → total xs ≤ℤ pos (length xs * 4611686018427387904)
total_most [] each = omega (arith, ints)
total_most (x ∷ xs) each =
    let here = All-head (λ z. z ≤ℤ pos 4611686018427387904) x xs each in
    let rest = total_most xs (All-tail (λ z. z ≤ℤ pos 4611686018427387904) x xs each) in
    omega (arith, ints, here, rest)

fees_take : (quotas : List Quota) (fees : List ℤ) → All (λ fee. pos 0 ≤ℤ fee) fees → pos 0 ≤ℤ fees_at_most quotas fees
fees_take [] fees each = omega (arith, ints)
fees_take (quota ∷ quotas) [] each = omega (arith, ints)
fees_take (quota ∷ quotas) (fee ∷ fees) each =
    let here = no_less quota.most fee (All-head (λ f. pos 0 ≤ℤ f) fee fees each) in
    let rest = fees_take quotas fees (All-tail (λ f. pos 0 ≤ℤ f) fee fees each) in
    omega (arith, ints, here, rest)

module _ (fixed : Fixed) (duals fees : List ℤ) (fair : ArePricesFair fixed duals fees)
    (duals_of : AreDuals fixed.table.now fixed.book.now duals) (fees_of : AreFees fixed.table.now fixed.quotas.now fees) where
  duals_low : All (λ x. x ≤ℤ pos 4611686018427387904) duals
  duals_low a d lt = let most = (duals_of.box a d lt).most in let box = fair.box in omega (arith, ints, most, box)

  values_low : total (fee_values_in fixed.table.now fixed.book.now fixed.quotas.now fixed.pool.now duals fees)
      ≤ℤ pos (aircraft fixed.book.now * 4611686018427387904)
  values_low =
      let value = fee_value_in fixed.table.now fixed.book.now fixed.quotas.now fixed.pool.now duals fees in
      let same = total_of_map (aircraft fixed.book.now) value in
      let most = below_most (aircraft fixed.book.now) value
      (λ k lt. least_most (is_of fixed.pool.now k) (fee_weight_at fixed.table.now fixed.book.now fixed.quotas.now fixed.pool.now duals fees) (length fixed.pool.now.entries)
      (λ i below. (fair.weights i below).most)) in
      omega (arith, ints, same, most)

  pub sum_most : sum_for fixed duals fees ≤ℤ pos (greatest_sum fixed)
  sum_most =
      let one = total_most duals duals_low in
      let two = values_low in
      let three = fees_take fixed.quotas.now fees (λ q d lt. (fees_of.box q d lt).least) in
      let each = duals_of.one_each in
      omega (arith, ints, one, two, three, each)
