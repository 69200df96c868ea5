use Rattle.branch_marks.proofs.Shown.{tree_bound}
use Rattle.branch_marks.proofs.laws.showing.shown_trees_bound.Goals as goal

pub returns : goal.returns
returns c table book sound marks tree low shown bounds plan legal hold =
    tree_bound c.following_facts_hold.ensures c.one_branch_holds.ensures c.holes_leave_no_plan.ensures c.stuck_leaves_no_plan.ensures
    c.low_weights_bound.ensures c.closed_families_bound.ensures c.endless_families_stick.ensures table book sound plan legal low marks tree shown bounds hold
