use Rattle.label_store.proofs.Offers.{kept_rows_are_offered}
use Rattle.label_store.proofs.laws.kept_rows_are_offered.Goals as goal

pub returns : goal.returns
returns c = kept_rows_are_offered
