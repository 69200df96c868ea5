use Rattle.std.proofs.Common.{◌≡◌, ℤ, pos, ◌-ℤ◌, arith}
use Rattle.std.proofs.lemmas.Int.{ints}
use Rattle.branch_marks.specs.Bound.{lagrangian}
use Rattle.quota_rows.specs.Fees.{fees_at_most}
use Rattle.quota_rows.proofs.FeeSums.{fees_at_most-none}
use Rattle.quota_rows.proofs.laws.lagrangian_without_fees.Goals as goal

nothing_less : (was most : ℤ) → most ≡ pos 0 → was -ℤ most ≡ was
nothing_less was most e = omega (arith, ints, e)

pub returns : goal.returns
returns c quotas duals fees values zeros = nothing_less (lagrangian duals values) (fees_at_most quotas fees) (fees_at_most-none quotas fees zeros)
