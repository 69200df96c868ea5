-- The sum over a pool as a function of one rise. A dual that falls adds to the weight of each route with its activity, and takes as much
-- from the sum of duals; a fee that rises adds to a weight by its uses, and takes by what may be used at most. The rest of the sum stays.
-- So what gains a cost unit in the part that the rise moves gains it in the sum.
use Rattle.std.specs.Prelude.{cond}
use Rattle.std.proofs.Common.{◌≡◌, ◌<◌, ◌-ℤ◌, ◌+ℤ◌, ◌*ℤ◌, ◌≤ℤ◌, ◌∙◌, ap, sym, subst, inl, inr, ℕ, ℤ, pos, Bool, arith, List, [], length, get_or, Option, Some, None}
use Rattle.std.proofs.Math.IntN.{zero-*ℤ}
use Rattle.std.proofs.lemmas.Int.{ints}
use Rattle.std.proofs.lemmas.List.{length-set, set-get_or}
use Rattle.std.specs.Option.{unwrap_or}
use Rattle.std.specs.Prelude.{◌<ℤ◌}
use Rattle.tail_book.specs.CostTable.{IsInBox, box_end}
use Rattle.tail_book.specs.Lookup.{activities, aircraft}
use Rattle.tail_book.specs.Ranges.{IsWithin}
use Rattle.tail_book.specs.Sums.{sum_below, total}
use Rattle.tail_book.proofs.Sums.{sum_below_same}
use Rattle.branch_marks.specs.Settled.{with_dual}
use Rattle.branch_marks.specs.Weights.{dual}
use Rattle.restricted_master.specs.Pool.{entry_at}
use Rattle.restricted_master.specs.Lists.{has, is_of, list_at}
use Rattle.restricted_master.specs.inside.Least.{entry_weight, weight_at}
use Rattle.fee_master.proofs.Members.{true_or_false}
use Rattle.fee_master.proofs.Changed.{all_set, total_set}
use Rattle.fee_master.proofs.Shifted.{weight_with, weight_without}
use Rattle.quota_rows.specs.Fees.{IsFee, fees_at_most, fees_on}
use Rattle.quota_rows.specs.declared.quota.Quota.{Quota}
use Rattle.fee_master.specs.PoolSum.{fee_value_in, fee_values_in, fee_weight_at}
use Rattle.fee_master.specs.SettledFees.{with_fee}
use Rattle.fee_master.specs.declared.fixed.Fixed.{Fixed}
use Rattle.fee_master.specs.inside.Lines.{line_at, line_value}
use Rattle.fee_master.specs.inside.Settling.{AreTimesOf, Gains, IsClear, IsFixed, IsGainFor, IsPriced, IsSettledDual, IsSettledFee, part_for, sum_for}
use Rattle.fee_master.specs.inside.Uses.{times_at}
use Rattle.fee_master.proofs.BelowSums.{total_of_map}
use Rattle.fee_master.proofs.Least.{least_same}
use Rattle.fee_master.proofs.Paid.{at_most_with, paid_is, paid_with}
use Rattle.fee_master.proofs.Products.{none_of, once}

-- what gains in a part gains in the whole
little : (rest before after here there : ℤ) → before ≡ rest +ℤ here → after ≡ rest +ℤ there → there <ℤ (here +ℤ pos 1000) → after <ℤ (before +ℤ pos 1000)
little rest before after here there e f less = omega (arith, ints, e, f, less)

much : (rest before after here there : ℤ) → before ≡ rest +ℤ here → after ≡ rest +ℤ there → (here +ℤ pos 1000) ≤ℤ there → (before +ℤ pos 1000) ≤ℤ after
much rest before after here there e f more = omega (arith, ints, e, f, more)

-- one activity's routes
has_step : (w d v fees here : ℤ) (t : ℕ) (late : ℤ) → t ≡ 1 → late ≡ ((w +ℤ d) -ℤ v) → here ≡ w +ℤ fees → late +ℤ fees ≡ here +ℤ (pos t *ℤ (d -ℤ v))
has_step w d v fees here t late e f g =
    let h : pos t *ℤ (d -ℤ v) ≡ d -ℤ v = ap (λ (n : ℕ). pos n *ℤ (d -ℤ v)) e ∙ once (d -ℤ v) in
    omega (arith, ints, f, g, h)

lacks_step : (w fees here rise : ℤ) (t : ℕ) (late : ℤ) → t ≡ 0 → late ≡ w → here ≡ w +ℤ fees → late +ℤ fees ≡ here +ℤ (pos t *ℤ rise)
lacks_step w fees here rise t late e f g =
    let h : pos t *ℤ rise ≡ pos 0 = ap (λ (n : ℕ). pos n *ℤ rise) e ∙ zero-*ℤ rise in
    omega (arith, ints, f, g, h)

module _ (fixed : Fixed) (duals fees weights : List ℤ) (is : IsFixed fixed) (priced : IsPriced fixed duals fees weights) where
  -- the values under other duals and fees, where all weights are lines at a rise
  values_at : (times : List ℕ) (rise : ℤ) (new_duals new_fees : List ℤ)
      → ((i : ℕ) → i < length fixed.pool.now.entries
      → fee_weight_at fixed.table.now fixed.book.now fixed.quotas.now fixed.pool.now new_duals new_fees i ≡ line_at weights times rise i)
      → total (fee_values_in fixed.table.now fixed.book.now fixed.quotas.now fixed.pool.now new_duals new_fees)
      ≡ sum_below (aircraft fixed.book.now) (line_value fixed.pool.now weights times rise)
  values_at times rise new_duals new_fees same =
      total_of_map (aircraft fixed.book.now) (fee_value_in fixed.table.now fixed.book.now fixed.quotas.now fixed.pool.now new_duals new_fees)
      ∙ sum_below_same (aircraft fixed.book.now) (fee_value_in fixed.table.now fixed.book.now fixed.quotas.now fixed.pool.now new_duals new_fees)
      (line_value fixed.pool.now weights times rise)
      (λ k lt. ap (λ (o : Option ℤ). unwrap_or o (pos 0)) (least_same (is_of fixed.pool.now k)
      (fee_weight_at fixed.table.now fixed.book.now fixed.quotas.now fixed.pool.now new_duals new_fees) (line_at weights times rise) (length fixed.pool.now.entries) same))

  module _ (times : List ℕ) (a : ℕ) (times_of : AreTimesOf fixed a times) (activity : a < activities fixed.book.now) where
    has_dual : a < length duals
    has_dual = omega (arith, activity, priced.duals_of.one_each)

    dual_lines : (v : ℤ) (i : ℕ) → i < length fixed.pool.now.entries
        → fee_weight_at fixed.table.now fixed.book.now fixed.quotas.now fixed.pool.now (with_dual duals a v) fees i ≡ line_at weights times (dual duals a -ℤ v) i
    dual_lines v i lt =
        let entry = entry_at fixed.pool.now i in
        let rising = is.pool_for.rising i (record { aircraft = 0; route = [] }) lt in
        let once_here : times_at times i ≡ cond (has fixed.pool.now a i) 1 0 = times_of.once i (omega (arith, lt, times_of.each)) in
        elim (true_or_false (has fixed.pool.now a i)) [
          | inl it ↦ has_step (entry_weight fixed.table.now fixed.book.now duals entry) (dual duals a) v (fees_on fixed.book.now fixed.quotas.now fees entry.route)
              (weight_at weights i) (times_at times i) (entry_weight fixed.table.now fixed.book.now (with_dual duals a v) entry)
              (once_here ∙ ap (λ (b : Bool). cond b 1 0) it)
              (weight_with fixed.table.now fixed.book.now (activities fixed.book.now) duals a v entry rising has_dual it) (priced.weighs i lt)
          | inr lacks ↦ lacks_step (entry_weight fixed.table.now fixed.book.now duals entry) (fees_on fixed.book.now fixed.quotas.now fees entry.route)
              (weight_at weights i) (dual duals a -ℤ v) (times_at times i) (entry_weight fixed.table.now fixed.book.now (with_dual duals a v) entry)
              (once_here ∙ ap (λ (b : Bool). cond b 1 0) lacks)
              (weight_without fixed.table.now fixed.book.now (activities fixed.book.now) duals a v entry rising lacks) (priced.weighs i lt)
        ]

    dual_sum : (v : ℤ) → sum_for fixed (with_dual duals a v) fees
        ≡ (total duals -ℤ fees_at_most fixed.quotas.now fees) +ℤ part_for fixed weights times 1 (dual duals a -ℤ v)
    dual_sum v =
        let values = values_at times (dual duals a -ℤ v) (with_dual duals a v) fees (dual_lines v) in
        let sum = total_set duals a v has_dual in
        let h = once (dual duals a -ℤ v) in
        omega (arith, ints, values, sum, h)

    dual_now : sum_for fixed duals fees ≡ (total duals -ℤ fees_at_most fixed.quotas.now fees) +ℤ part_for fixed weights times 1 (pos 0)
    dual_now =
        let same : dual duals a -ℤ dual duals a ≡ pos 0 = omega (arith, ints) in
        ap (λ (us : List ℤ). sum_for fixed us fees) (sym (set-get_or duals a (pos 0))) ∙ dual_sum (dual duals a)
        ∙ ap (λ (z : ℤ). (total duals -ℤ fees_at_most fixed.quotas.now fees) +ℤ part_for fixed weights times 1 z) same

    pub dual_settled : (low high : ℤ) → low ≡ dual duals a -ℤ pos (box_end fixed.table.now) → high ≡ dual duals a +ℤ pos (box_end fixed.table.now)
        → IsGainFor fixed weights times 1 low high None → IsSettledDual fixed duals fees a
    dual_settled low high e f none value box =
        let least = box.least in let most = box.most in
        little (total duals -ℤ fees_at_most fixed.quotas.now fees) (sum_for fixed duals fees) (sum_for fixed (with_dual duals a value) fees)
        (part_for fixed weights times 1 (pos 0)) (part_for fixed weights times 1 (dual duals a -ℤ value)) dual_now (dual_sum value)
        (none (dual duals a -ℤ value) (record { least = omega (arith, ints, e, most); most = omega (arith, ints, f, least) }))

    back : (rise : ℤ) → dual duals a -ℤ (dual duals a -ℤ rise) ≡ rise
    back rise = omega (arith, ints)

    pub dual_gains : (low high rise : ℤ) → IsGainFor fixed weights times 1 low high (Some rise) → Gains fixed duals fees (with_dual duals a (dual duals a -ℤ rise)) fees
    dual_gains low high rise gain =
        much (total duals -ℤ fees_at_most fixed.quotas.now fees) (sum_for fixed duals fees) (sum_for fixed (with_dual duals a (dual duals a -ℤ rise)) fees)
        (part_for fixed weights times 1 (pos 0)) (part_for fixed weights times 1 (dual duals a -ℤ (dual duals a -ℤ rise))) dual_now (dual_sum (dual duals a -ℤ rise))
        (subst (λ (z : ℤ). (part_for fixed weights times 1 (pos 0) +ℤ pos 1000) ≤ℤ part_for fixed weights times 1 z) (sym (back rise)) gain.1)

    pub dual_priced : (low high rise : ℤ) (later : List ℤ) → low ≡ dual duals a -ℤ pos (box_end fixed.table.now) → high ≡ dual duals a +ℤ pos (box_end fixed.table.now)
        → IsWithin low high rise → length later ≡ length weights → ((i : ℕ) → i < length later → weight_at later i ≡ line_at weights times rise i)
        → IsPriced fixed (with_dual duals a (dual duals a -ℤ rise)) fees later
    dual_priced low high rise later e f within long shifted =
        let least = within.least in let most = within.most in record {
          duals_of = record {
            one_each = length-set duals a (dual duals a -ℤ rise) ∙ priced.duals_of.one_each;
            box = all_set (IsInBox fixed.table.now) duals a (dual duals a -ℤ rise) priced.duals_of.box
                (record { least = omega (arith, ints, f, most); most = omega (arith, ints, e, least) });
          };
          fees_of = priced.fees_of;
          each = long ∙ priced.each;
          weighs = λ i lt. shifted i (omega (arith, lt, long, priced.each)) ∙ ap (λ (z : ℤ). line_at weights times z i) (sym (back rise))
              ∙ sym (dual_lines (dual duals a -ℤ rise) i lt);
        }

  module _ (q : ℕ) (quota : Quota) (below : q < length fixed.quotas.now) (quota_is : get_or fixed.quotas.now q quota ≡ quota) where
    fee_lines : (v : ℤ) (i : ℕ) → i < length fixed.pool.now.entries
        → fee_weight_at fixed.table.now fixed.book.now fixed.quotas.now fixed.pool.now duals (with_fee fees q v) i ≡ line_at weights (list_at fixed.uses.now q) (v -ℤ get_or fees q (pos 0)) i
    fee_lines v i lt =
        let old = paid_is fixed.book.now fixed.pool.now i lt fixed.quotas.now fixed.uses.now fees is.uses_of priced.fees_of.one_each in
        let new = paid_is fixed.book.now fixed.pool.now i lt fixed.quotas.now fixed.uses.now (with_fee fees q v) is.uses_of (length-set fees q v ∙ priced.fees_of.one_each) in
        let change = paid_with fixed.uses.now fees q v i (priced.fees_of.one_each ∙ sym is.uses_of.0) (omega (arith, below, is.uses_of.0)) in
        let here = priced.weighs i lt in
        omega (arith, ints, old, new, change, here)

    fee_sum : (v : ℤ) → sum_for fixed duals (with_fee fees q v)
        ≡ (total duals -ℤ fees_at_most fixed.quotas.now fees) +ℤ part_for fixed weights (list_at fixed.uses.now q) quota.most (v -ℤ get_or fees q (pos 0))
    fee_sum v =
        let values = values_at (list_at fixed.uses.now q) (v -ℤ get_or fees q (pos 0)) duals (with_fee fees q v) (fee_lines v) in
        let most = at_most_with fixed.quotas.now fees q quota v priced.fees_of.one_each below quota_is in
        omega (arith, ints, values, most)

    fee_now : sum_for fixed duals fees
        ≡ (total duals -ℤ fees_at_most fixed.quotas.now fees) +ℤ part_for fixed weights (list_at fixed.uses.now q) quota.most (pos 0)
    fee_now =
        let same : get_or fees q (pos 0) -ℤ get_or fees q (pos 0) ≡ pos 0 = omega (arith, ints) in
        ap (λ (ps : List ℤ). sum_for fixed duals ps) (sym (set-get_or fees q (pos 0))) ∙ fee_sum (get_or fees q (pos 0))
        ∙ ap (λ (z : ℤ). (total duals -ℤ fees_at_most fixed.quotas.now fees) +ℤ part_for fixed weights (list_at fixed.uses.now q) quota.most z) same

    pub fee_settled : (low high : ℤ) → low ≡ pos 0 -ℤ get_or fees q (pos 0) → high ≡ pos (box_end fixed.table.now) -ℤ get_or fees q (pos 0)
        → IsGainFor fixed weights (list_at fixed.uses.now q) quota.most low high None → IsSettledFee fixed duals fees q
    fee_settled low high e f none value box =
        let least = box.least in let most = box.most in
        little (total duals -ℤ fees_at_most fixed.quotas.now fees) (sum_for fixed duals fees) (sum_for fixed duals (with_fee fees q value))
        (part_for fixed weights (list_at fixed.uses.now q) quota.most (pos 0)) (part_for fixed weights (list_at fixed.uses.now q) quota.most (value -ℤ get_or fees q (pos 0))) fee_now (fee_sum value)
        (none (value -ℤ get_or fees q (pos 0)) (record { least = omega (arith, ints, e, least); most = omega (arith, ints, f, most) }))

    forth : (rise : ℤ) → (get_or fees q (pos 0) +ℤ rise) -ℤ get_or fees q (pos 0) ≡ rise
    forth rise = omega (arith, ints)

    pub fee_gains : (low high rise : ℤ) → IsGainFor fixed weights (list_at fixed.uses.now q) quota.most low high (Some rise)
        → Gains fixed duals fees duals (with_fee fees q (get_or fees q (pos 0) +ℤ rise))
    fee_gains low high rise gain =
        much (total duals -ℤ fees_at_most fixed.quotas.now fees) (sum_for fixed duals fees) (sum_for fixed duals (with_fee fees q (get_or fees q (pos 0) +ℤ rise)))
        (part_for fixed weights (list_at fixed.uses.now q) quota.most (pos 0)) (part_for fixed weights (list_at fixed.uses.now q) quota.most ((get_or fees q (pos 0) +ℤ rise) -ℤ get_or fees q (pos 0)))
        fee_now (fee_sum (get_or fees q (pos 0) +ℤ rise))
        (subst (λ (z : ℤ). (part_for fixed weights (list_at fixed.uses.now q) quota.most (pos 0) +ℤ pos 1000) ≤ℤ part_for fixed weights (list_at fixed.uses.now q) quota.most z) (sym (forth rise)) gain.1)

    pub fee_priced : (low high rise : ℤ) (later : List ℤ) → low ≡ pos 0 -ℤ get_or fees q (pos 0) → high ≡ pos (box_end fixed.table.now) -ℤ get_or fees q (pos 0)
        → IsWithin low high rise → length later ≡ length weights → ((i : ℕ) → i < length later → weight_at later i ≡ line_at weights (list_at fixed.uses.now q) rise i)
        → IsPriced fixed duals (with_fee fees q (get_or fees q (pos 0) +ℤ rise)) later
    fee_priced low high rise later e f within long shifted =
        let least = within.least in let most = within.most in record {
          duals_of = priced.duals_of;
          fees_of = record {
            one_each = length-set fees q (get_or fees q (pos 0) +ℤ rise) ∙ priced.fees_of.one_each;
            box = all_set (IsFee fixed.table.now) fees q (get_or fees q (pos 0) +ℤ rise) priced.fees_of.box
                (record { least = omega (arith, ints, e, least); most = omega (arith, ints, f, most) });
          };
          each = long ∙ priced.each;
          weighs = λ i lt. shifted i (omega (arith, lt, long, priced.each)) ∙ ap (λ (z : ℤ). line_at weights (list_at fixed.uses.now q) z i) (sym (forth rise))
              ∙ sym (fee_lines (get_or fees q (pos 0) +ℤ rise) i lt);
        }

  -- with no rise at all it is the sum itself
  pub clear_sum : (times : List ℕ) → IsClear fixed times → (values : ℤ) → values ≡ sum_below (aircraft fixed.book.now) (line_value fixed.pool.now weights times (pos 0))
      → sum_for fixed duals fees ≡ (total duals +ℤ values) -ℤ fees_at_most fixed.quotas.now fees
  clear_sum times clear values e =
      let at = values_at times (pos 0) duals fees
      (λ i lt. let here = priced.weighs i lt in let none = none_of (times_at times i) in omega (arith, ints, here, none)) in
      omega (arith, ints, at, e)
