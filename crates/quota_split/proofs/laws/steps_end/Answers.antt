use Rattle.quota_split.proofs.laws.steps_end.Goals as goal

pub returns : goal.returns
returns c table book is quotas marks steps target follow closed plan kept hold =
    closed plan kept (c.followed_marks_hold.ensures book is marks steps follow plan kept.legal hold)
