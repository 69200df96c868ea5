use Rattle.branch_marks.proofs.DeadEnds.{stuck_leaves_none}
use Rattle.branch_marks.proofs.laws.branching.stuck_leaves_no_plan.Goals as goal

pub returns : goal.returns
returns c = stuck_leaves_none c.marked_routes_fit.ensures
