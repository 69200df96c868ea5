use Rattle.cert_checker.proofs.LeanBounds.{lean_whole}
use Rattle.cert_checker.proofs.laws.lean_trees_are_whole.Goals as goal

pub returns : goal.returns
returns c book sound version marks tree low shown bounds =
    lean_whole c.least_weights_are_found.ensures book sound low c.stuck_is_shown.ensures c.low_bounds_are_shown.ensures version tree marks shown bounds
