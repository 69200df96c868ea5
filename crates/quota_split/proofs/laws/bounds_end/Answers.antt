use Rattle.std.proofs.Common.{◌≤◌, ◌<◌, ◌+◌, ◌*◌, ◌/◌, ℕ, arith}
use Rattle.branch_marks.specs.Bound.{bound_of}
use Rattle.quota_rows.specs.FeeBound.{fee_lagrangian}
use Rattle.quota_split.proofs.laws.bounds_end.Goals as goal

-- a bound that passes is at least the target in whole cost units
reached : (bound target : ℕ) → 1000 * target < bound + 1000 → target ≤ (bound + 999) / 1000
reached bound target passes = omega (arith, passes)

pub returns : goal.returns
returns c table book is quotas marks duals fees values target count box least passes plan kept hold =
    let low = c.least_fee_weights_bound.ensures table book is quotas marks duals fees values count box least plan kept hold in
    let high = reached (bound_of (fee_lagrangian quotas duals fees values)) target passes in
    omega (arith, low, high)
