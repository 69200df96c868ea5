use Rattle.label_store.proofs.Offers.{offers_keep_stores}
use Rattle.label_store.proofs.laws.offers_keep_stores.Goals as goal

pub returns : goal.returns
returns c = offers_keep_stores c.each_at_most_decides.ensures
