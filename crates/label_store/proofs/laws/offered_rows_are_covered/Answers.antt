use Rattle.label_store.proofs.Offers.{offered_rows_are_covered}
use Rattle.label_store.proofs.laws.offered_rows_are_covered.Goals as goal

pub returns : goal.returns
returns c = offered_rows_are_covered c.each_at_most_itself.ensures
