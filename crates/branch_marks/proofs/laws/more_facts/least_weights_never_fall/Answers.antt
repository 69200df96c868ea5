use Rattle.branch_marks.proofs.MoreFacts.{low_below_least}
use Rattle.branch_marks.proofs.laws.more_facts.least_weights_never_fall.Goals as goal

pub returns : goal.returns
returns c table book fewer more among k duals old new before after =
    low_below_least c.low_weights_stay.ensures table book fewer more among k duals old new before.least after
