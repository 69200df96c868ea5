use Rattle.branch_tree.proofs.Outcomes.{outcome_true}
use Rattle.branch_tree.proofs.laws.grown_trees_are_true.Goals as goal

pub returns : goal.returns
returns c = λ table book sound costs for_book limit outcome count closing nodes is.
    outcome_true table book limit sound costs for_book c.legal_plans_cost_at_most_in.ensures c.shown_nodes_are_trees.ensures c.shown_roots_bound.ensures
    c.grown_trees_are_bounded.ensures outcome count closing nodes is
