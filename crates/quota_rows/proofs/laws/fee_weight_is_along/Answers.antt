use Rattle.std.proofs.Common.{◌∙◌, ap, sym, ◌+ℤ◌, ℤ}
use Rattle.tail_book.specs.declared.place.Place.TheVariants.{Carry}
use Rattle.quota_rows.specs.Fees.{fees_on}
use Rattle.quota_rows.proofs.FeeSums.{fee_weights_along}
use Rattle.quota_rows.proofs.laws.fee_weight_is_along.Goals as goal

pub returns : goal.returns
returns c table book quotas k duals fees route =
    ap (λ (w : ℤ). w +ℤ fees_on book quotas fees route) (c.weight_is_along.ensures table book k duals route)
    ∙ sym (fee_weights_along table book quotas k duals fees Carry route)
