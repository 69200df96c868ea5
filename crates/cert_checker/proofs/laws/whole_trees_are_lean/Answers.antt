use Rattle.cert_checker.proofs.LeanBounds.{whole_lean}
use Rattle.cert_checker.proofs.laws.whole_trees_are_lean.Goals as goal

pub returns : goal.returns
returns c book sound marks tree low shown bounds =
    whole_lean c.least_weights_are_found.ensures book sound low c.closed_families_bound.ensures c.rounded_up_is_least.ensures tree marks shown bounds
