use Rattle.std.proofs.Common.{◌≡◌, ◌<◌, ◌+ℤ◌, ◌+◌, ◌^◌, ℕ, ℤ, List, length, drop, get_or, ap, arith, rules, w64, to_z, of_z}
use Rattle.std.proofs.lemmas.Int.{ints}
use Rattle.std.proofs.lemmas.List.{drop_more}
use Rattle.std.specs.Int.{w128}
use Rattle.branch_marks.specs.Weights.{dual, duals_on}
use Rattle.fee_master.proofs.fee_weights.duals_on.Goals as goal

added : (duals : List ℤ) (route : List ℕ) (q : ℕ) (sum : ℤ) → q < length route → (sum +ℤ duals_on duals (drop q route)) ≡ duals_on duals route
    → ((sum +ℤ dual duals (get_or route q 0)) +ℤ duals_on duals (drop (q + 1) route)) ≡ duals_on duals route
added duals route q sum below so_far =
    let more = ap (duals_on duals) (drop_more route q 0 below) in omega (arith, ints, so_far, more)

-- one activity more
pub loop-q-preserved : goal.loop-q-preserved
loop-q-preserved c =
    let sum = c.loop-q.invariant.range in
    let few : c.loop-q.q < 2 ^ 62 = omega (arith, c.loop-q-test.true, c.well_formed) in
    let read : to_z w64 (of_z w64 (dual c.args.duals.now (get_or c.args.route.now c.loop-q.q 0))) ≡ dual c.args.duals.now (get_or c.args.route.now c.loop-q.q 0) = search rules in
    let weight : to_z w128 (of_z w128 (to_z w128 c.loop-q.sum-bits +ℤ to_z w128 (of_z w128 (to_z w64 (of_z w64 (dual c.args.duals.now (get_or c.args.route.now c.loop-q.q 0)))))))
    ≡ to_z w128 c.loop-q.sum-bits +ℤ dual c.args.duals.now (get_or c.args.route.now c.loop-q.q 0) = omega (arith, ints, sum, few, read) in
    record {
      so_far = rw weight (added c.args.duals.now c.args.route.now c.loop-q.q (to_z w128 c.loop-q.sum-bits) c.loop-q-test.true c.loop-q.invariant.so_far);
      range = record { least = rw weight (omega (arith, ints, sum, read)); most = rw weight (omega (arith, ints, sum, read)) };
    }
