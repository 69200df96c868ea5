use Rattle.quota_split.proofs.laws.holes_end.Goals as goal

pub returns : goal.returns
returns c table book is quotas marks a target hole plan kept hold = absurd (c.holes_leave_no_plan.ensures book is marks a hole plan kept.legal hold)
