use Rattle.quota_split.specs.Ties.{no_quota, quota_at}
use Rattle.quota_split.proofs.laws.overs_end.Goals as goal

pub returns : goal.returns
returns c table book quotas marks q target once first plan kept hold =
    absurd (c.tied_over_leaves_no_plan.ensures book (quota_at quotas q) marks once first.over plan hold
    (kept.keeps q no_quota first.of_table))
