use Rattle.branch_marks.proofs.UsableAlong.{usable_one_more}
use Rattle.branch_marks.proofs.laws.marked_routes.usable_with_one_more.Goals as goal

pub returns : goal.returns
returns c = usable_one_more
