use Rattle.branch_marks.proofs.Settled.{is_settled}
use Rattle.branch_marks.proofs.laws.settled_duals.settled_over_pool_is_settled.Goals as goal

pub returns : goal.returns
returns c table book marks pool duals values fitting over least pooled =
    is_settled c.least_in_is_least.ensures c.least_weights_are_one.ensures table book marks pool fitting duals values over least pooled
