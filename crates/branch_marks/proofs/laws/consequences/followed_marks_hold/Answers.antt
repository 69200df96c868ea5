use Rattle.branch_marks.proofs.InTurn.{followed_hold}
use Rattle.branch_marks.proofs.laws.consequences.followed_marks_hold.Goals as goal

pub returns : goal.returns
returns c book sound marks facts turn plan legal hold = followed_hold c.following_facts_hold.ensures book sound plan legal marks facts turn hold
