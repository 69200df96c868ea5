use Rattle.fee_master.proofs.PoolSettled.{pooled_least}
use Rattle.fee_master.proofs.laws.pooled_least_is_least.Goals as goal

pub returns : goal.returns
returns c = λ table book quotas marks pool duals fees k value fitting. pooled_least table book quotas marks pool fitting duals fees k value
