use Rattle.fee_pricing.proofs.Truths.{kept_true}
use Rattle.fee_pricing.proofs.laws.kept_rows_are_true.Goals as goal

pub returns : goal.returns
returns c = kept_true
