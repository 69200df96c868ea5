use Rattle.fee_master.proofs.PoolSettled.{is_settled}
use Rattle.fee_master.proofs.laws.settled_over_pool_is_settled.Goals as goal

pub returns : goal.returns
returns c = λ table book quotas marks pool duals fees values fitting. is_settled table book quotas marks pool fitting duals fees values
