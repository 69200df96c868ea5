use Rattle.branch_marks.proofs.DeadEnds.{hole_leaves_none}
use Rattle.branch_marks.proofs.laws.branching.holes_leave_no_plan.Goals as goal

pub returns : goal.returns
returns c = hole_leaves_none c.marked_routes_fit.ensures c.each_is_flown_once.ensures
