use Rattle.branch_tree.proofs.Rising.{branches_no_lower}
use Rattle.branch_tree.proofs.laws.branches_bound_no_lower.Goals as goal

pub returns : goal.returns
returns c = branches_no_lower c.sums_never_fall.ensures
