use Rattle.std.proofs.Common.{arith, ◌<◌, ◌≤◌, ℕ, ◌+◌, ◌*◌, ◌^◌}
use Rattle.std.proofs.lemmas.Nat.{mul-le}
use Rattle.sample_calls.proofs.costs.leg_cost.Goals as goal

small : (duals whole most fly band : ℕ) → duals + 1000 * whole ≤ 2 ^ 61 → most ≤ whole → fly + band ≤ most → fly + band < 2 ^ 64
small duals whole most fly band sums few here = omega arith

-- a leg costs at most what all activities of a table do, which stays far below
fits : (n most_fly most_band fly band : ℕ) → 0 < n → n * (1000 * (n * (most_fly + most_band) + 1)) + 1000 * (n * (most_fly + most_band)) ≤ 2 ^ 61
    → fly ≤ most_fly → band ≤ most_band → fly + band < 2 ^ 64
fits n most_fly most_band fly band some sums few_fly few_band =
    let one : 1 * (most_fly + most_band) ≤ n * (most_fly + most_band) = mul-le 1 (most_fly + most_band) n (most_fly + most_band) (omega arith) (omega arith) in
    small (n * (1000 * (n * (most_fly + most_band) + 1))) (n * (most_fly + most_band)) (1 * (most_fly + most_band)) fly band sums one (omega arith)

pub overflow_add-result : goal.overflow_add-result
overflow_add-result c =
    let most : c.connection_cost.result ≤ c.args.table.now.band_max =
    c.connection_cost.ensures.most c.args.table.now.band_max (rw (c.deref.ensures.value, ← c.table.view_is) c.table.invariant.bands) in
    let few : c.activity_cost.result + c.connection_cost.result < 2 ^ 64 =
    fits c.args.table.now.n c.args.table.now.fly_max c.args.table.now.band_max c.activity_cost.result c.connection_cost.result
    (omega (arith, c.requires.table.activities, c.requires.activity)) c.every_cost_table_is_sound.ensures.sums c.activity_cost.ensures.most most in
    omega (arith, few)
