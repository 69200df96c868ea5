use Rattle.branch_marks.proofs.InTurn.{in_turn_one_more}
use Rattle.branch_marks.proofs.laws.consequences.follow_in_turn_with_one_more.Goals as goal

pub returns : goal.returns
returns c = in_turn_one_more
