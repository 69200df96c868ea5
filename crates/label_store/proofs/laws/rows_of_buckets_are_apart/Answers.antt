use Rattle.label_store.proofs.Buckets.{apart_places}
use Rattle.label_store.proofs.laws.rows_of_buckets_are_apart.Goals as goal

pub returns : goal.returns
returns c store sound node inside p q below_p below_q other = apart_places store.rows _ (sound.apart node inside) p q below_p below_q other
