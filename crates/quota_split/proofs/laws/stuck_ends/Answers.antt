use Rattle.quota_split.proofs.laws.stuck_ends.Goals as goal

pub returns : goal.returns
returns c table book is quotas marks k target lt stuck plan kept hold = absurd (c.stuck_leaves_no_plan.ensures book is marks k lt stuck plan kept.legal hold)
