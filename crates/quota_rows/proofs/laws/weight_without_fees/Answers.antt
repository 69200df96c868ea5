use Rattle.std.proofs.Common.{◌≡◌, ℤ, pos, ◌+ℤ◌, arith}
use Rattle.std.proofs.lemmas.Int.{ints}
use Rattle.tail_book.specs.declared.place.Place.TheVariants.{Carry}
use Rattle.branch_marks.specs.Weights.{weight}
use Rattle.quota_rows.specs.Fees.{fees_on}
use Rattle.quota_rows.proofs.FeeSums.{fees_from-none}
use Rattle.quota_rows.proofs.laws.weight_without_fees.Goals as goal

nothing_more : (was paid : ℤ) → paid ≡ pos 0 → was +ℤ paid ≡ was
nothing_more was paid e = omega (arith, ints, e)

pub returns : goal.returns
returns c table book quotas k duals fees route zeros =
    nothing_more (weight table book k duals route) (fees_on book quotas fees route) (fees_from-none book quotas fees Carry route zeros)
