use Rattle.branch_marks.proofs.FollowingDecided.{shut_tested}
use Rattle.branch_marks.proofs.laws.deciding.shut_decides.Goals as goal

pub returns : goal.returns
returns c = shut_tested c.follows_decides.ensures
