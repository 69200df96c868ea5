use Rattle.branch_marks.specs.Bound.{lagrangian}
use Rattle.branch_marks.proofs.MoreFacts.{has_not_fallen, lagrangian_below}
use Rattle.branch_marks.proofs.laws.more_facts.bounds_never_fall.Goals as goal

pub returns : goal.returns
returns c table book fewer more among duals old new low least =
    has_not_fallen c.rounded_up_is_least.ensures (lagrangian duals old) (lagrangian duals new)
    (lagrangian_below c.low_weights_stay.ensures table book fewer more among duals old new low least)
