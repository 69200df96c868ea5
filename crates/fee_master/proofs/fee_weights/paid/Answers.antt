use Rattle.std.proofs.Common.{◌≡◌, ◌<◌, ◌+ℤ◌, ◌*ℤ◌, ◌+◌, ◌∙◌, ℕ, ℤ, List, [], pos, length, drop, get_or, ap, ap₂, arith, w64, to_z, of_z}
use Rattle.std.proofs.lemmas.Int.{ints}
use Rattle.std.proofs.lemmas.List.{drop_more}
use Rattle.std.specs.Int.{w128}
use Rattle.restricted_master.specs.Lists.{list_at}
use Rattle.fee_master.specs.inside.Uses.{paid, times_at}
use Rattle.fee_master.proofs.fee_weights.paid.Goals as goal

added : (uses : List (List ℕ)) (fees : List ℤ) (i q : ℕ) (sum : ℤ) → q < length uses → q < length fees
    → (sum +ℤ paid (drop q uses) (drop q fees) i) ≡ paid uses fees i
    → ((sum +ℤ (pos (times_at (list_at uses q) i) *ℤ get_or fees q (pos 0))) +ℤ paid (drop (q + 1) uses) (drop (q + 1) fees) i) ≡ paid uses fees i
added uses fees i q sum below has so_far =
    let more = ap₂ (λ (us : List (List ℕ)) (fs : List ℤ). paid us fs i) (drop_more uses q [] below) (drop_more fees q (pos 0) has) in
    omega (arith, ints, so_far, more)

pub overflow_add-sum : goal.overflow_add-sum
overflow_add-sum c =
    let few : c.loop-q.q < 50 = omega (arith, c.loop-q-test.true, c.requires.few) in
    let range = c.loop-q.invariant.range in
    let one = c.product-sum.ensures.range in
    omega (arith, ints, few, range, one)

-- one quota more
pub loop-q-preserved : goal.loop-q-preserved
loop-q-preserved c =
    let uses = c.args.uses.now in
    let fees = c.args.fees.now in
    let q = c.loop-q.q in
    let few : q < 50 = omega (arith, c.loop-q-test.true, c.requires.few) in
    let has : q < length fees = omega (arith, c.loop-q-test.true, c.requires.one_each) in
    let fair = c.requires.fair q (pos 0) has in
    let low = fair.least in
    let high = fair.most in
    let read : to_z w64 (of_z w64 (get_or fees q (pos 0))) ≡ get_or fees q (pos 0) = omega (arith, ints, low, high) in
    let count : c.count_at.result ≡ times_at (list_at uses q) c.args.i = c.count_at.ensures ∙ ap (λ (ts : List ℕ). times_at ts c.args.i) c.counts_at.ensures in
    let value : c.product-sum.result ≡ pos (times_at (list_at uses q) c.args.i) *ℤ get_or fees q (pos 0) =
    c.product-sum.ensures.value ∙ ap₂ (λ (n : ℕ) (z : ℤ). pos n *ℤ z) count read in
    let range = c.loop-q.invariant.range in
    let one = c.product-sum.ensures.range in
    let next : to_z w128 (of_z w128 (to_z w128 c.loop-q.sum-bits +ℤ to_z w128 (of_z w128 c.product-sum.result))) ≡ to_z w128 c.loop-q.sum-bits +ℤ c.product-sum.result =
    omega (arith, ints, few, range, one) in
    record {
      so_far = rw (next, value) (added uses fees c.args.i q (to_z w128 c.loop-q.sum-bits) c.loop-q-test.true has c.loop-q.invariant.so_far);
      range = record { least = rw next (omega (arith, ints, range, one)); most = rw next (omega (arith, ints, range, one)) };
    }
