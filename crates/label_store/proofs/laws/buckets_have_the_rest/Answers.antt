use Rattle.label_store.proofs.Offers.{buckets_have_the_rest}
use Rattle.label_store.proofs.laws.buckets_have_the_rest.Goals as goal

pub returns : goal.returns
returns c = buckets_have_the_rest c.each_at_most_decides.ensures
