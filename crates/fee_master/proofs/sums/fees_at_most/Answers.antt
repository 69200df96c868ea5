use Rattle.std.proofs.Common.{◌≡◌, ◌<◌, ◌+ℤ◌, ◌*ℤ◌, ◌+◌, ◌∙◌, ℕ, ℤ, List, pos, length, drop, get_or, ap, ap₂, arith, w64, to_z, of_z}
use Rattle.std.proofs.lemmas.Int.{ints}
use Rattle.std.proofs.lemmas.List.{drop_more}
use Rattle.std.specs.Int.{w128}
use Rattle.quota_rows.specs.Fees.{fees_at_most}
use Rattle.quota_rows.specs.declared.quota.Quota.{Quota}
use Rattle.fee_master.proofs.sums.fees_at_most.Goals as goal

abbrev none : Quota
none = record { airport = 0; day = pos 0; below = pos 0; most = 0 }

added : (quotas : List Quota) (fees : List ℤ) (q : ℕ) (sum : ℤ) → q < length quotas → q < length fees
    → (sum +ℤ fees_at_most (drop q quotas) (drop q fees)) ≡ fees_at_most quotas fees
    → ((sum +ℤ (pos (get_or quotas q none).most *ℤ get_or fees q (pos 0))) +ℤ fees_at_most (drop (q + 1) quotas) (drop (q + 1) fees)) ≡ fees_at_most quotas fees
added quotas fees q sum below has so_far =
    let more = ap₂ (λ (qs : List Quota) (fs : List ℤ). fees_at_most qs fs) (drop_more quotas q none below) (drop_more fees q (pos 0) has) in
    omega (arith, ints, so_far, more)

pub overflow_add-sum : goal.overflow_add-sum
overflow_add-sum c =
    let few : c.loop-q.q < 50 = omega (arith, c.loop-q-test.true, c.requires.few) in
    let range = c.loop-q.invariant.range in
    let one = c.product-sum.ensures.range in
    omega (arith, ints, few, range, one)

-- one quota more
pub loop-q-preserved : goal.loop-q-preserved
loop-q-preserved c =
    let quotas = c.args.quotas.now in
    let fees = c.args.fees.now in
    let q = c.loop-q.q in
    let few : q < 50 = omega (arith, c.loop-q-test.true, c.requires.few) in
    let has : q < length fees = omega (arith, c.loop-q-test.true, c.requires.one_each) in
    let fair = c.requires.fair q (pos 0) has in
    let low = fair.least in
    let high = fair.most in
    let read : to_z w64 (of_z w64 (get_or fees q (pos 0))) ≡ get_or fees q (pos 0) = omega (arith, ints, low, high) in
    let value : c.product-sum.result ≡ pos (get_or quotas q none).most *ℤ get_or fees q (pos 0) =
    c.product-sum.ensures.value ∙ ap (λ (z : ℤ). pos (get_or quotas q none).most *ℤ z) read in
    let range = c.loop-q.invariant.range in
    let one = c.product-sum.ensures.range in
    let next : to_z w128 (of_z w128 (to_z w128 c.loop-q.sum-bits +ℤ to_z w128 (of_z w128 c.product-sum.result))) ≡ to_z w128 c.loop-q.sum-bits +ℤ c.product-sum.result =
    omega (arith, ints, few, range, one) in
    record {
      so_far = rw (next, value) (added quotas fees q (to_z w128 c.loop-q.sum-bits) c.loop-q-test.true has c.loop-q.invariant.so_far);
      range = record { least = rw next (omega (arith, ints, range, one)); most = rw next (omega (arith, ints, range, one)) };
    }
