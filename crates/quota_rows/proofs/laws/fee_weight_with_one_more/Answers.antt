use Rattle.std.proofs.Common.{◌≡◌, ℤ, ◌+ℤ◌, arith, [], ◌∷◌, ◌++◌}
use Rattle.std.proofs.lemmas.Int.{ints}
use Rattle.tail_book.specs.declared.place.Place.TheVariants.{Carry}
use Rattle.tail_book.specs.inside.OneMore.{end_place}
use Rattle.branch_marks.specs.Weights.{arc_weight, weight}
use Rattle.quota_rows.specs.Fees.{fee_at, fees_on}
use Rattle.quota_rows.proofs.FeeSums.{fees_with_one_more}
use Rattle.quota_rows.proofs.laws.fee_weight_with_one_more.Goals as goal

more : (now was arc paid before fee : ℤ) → now ≡ was +ℤ arc → paid ≡ before +ℤ fee → now +ℤ paid ≡ (was +ℤ before) +ℤ (arc +ℤ fee)
more now was arc paid before fee e f = omega (arith, ints, e, f)

pub returns : goal.returns
returns c table book quotas k duals fees route b =
    more (weight table book k duals (route ++ b ∷ [])) (weight table book k duals route) (arc_weight table book k duals (end_place route) b)
    (fees_on book quotas fees (route ++ b ∷ [])) (fees_on book quotas fees route) (fee_at book quotas fees (end_place route) b)
    (c.weight_with_one_more.ensures table book k duals route b) (fees_with_one_more book quotas fees Carry route b)
