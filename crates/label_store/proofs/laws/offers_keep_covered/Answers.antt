use Rattle.label_store.proofs.Offers.{offers_keep_covered}
use Rattle.label_store.proofs.laws.offers_keep_covered.Goals as goal

pub returns : goal.returns
returns c = offers_keep_covered c.each_at_most_decides.ensures c.each_at_most_itself.ensures c.each_at_most_chains.ensures
