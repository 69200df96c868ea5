use Rattle.branch_marks.proofs.FollowingDecided.{follows_tested}
use Rattle.branch_marks.proofs.laws.deciding.follows_decides.Goals as goal

pub returns : goal.returns
returns c = follows_tested c.fact_of_decides.ensures c.alive_decides.ensures c.usable_decides.ensures c.may_end_decides.ensures
    c.has_fact_decides.ensures c.limits_decide.ensures
