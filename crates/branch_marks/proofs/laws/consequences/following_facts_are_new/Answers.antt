use Rattle.branch_marks.proofs.InTurn.{following_is_new}
use Rattle.branch_marks.proofs.laws.consequences.following_facts_are_new.Goals as goal

pub returns : goal.returns
returns c = following_is_new
