use Rattle.tail_book.specs.CostTable.{costs_of}
use Rattle.tail_book.proofs.TableCosts.{own_costs_sound}
use Rattle.certified_search.proofs.Accepted.{accepted, grown_in}
use Rattle.certified_search.proofs.laws.search_trees_are_accepted.Goals as goal

-- its tree is grown, whatever the order, so what it ends with is true
pub returns : goal.returns
returns c book sound limit order version outcome nodes is spelled =
    let (count, closing, grown) = grown_in c.search_trees_are_grown.ensures c.best_trees_are_grown.ensures order (costs_of book) book limit outcome nodes is in
    let told = c.grown_trees_are_true.ensures (costs_of book) book sound (own_costs_sound book sound) (c.own_costs_are_for_book.ensures book) limit outcome count closing nodes grown in
    let truth = (c.own_costs_keep_outcomes.ensures book outcome).0 told in
    accepted c.grown_trees_are_bounded.ensures c.shown_nodes_are_trees.ensures c.whole_trees_are_lean.ensures c.fliers_fly.ensures c.plans_of_their_fliers.ensures c.legal_plans_cost_at_most.ensures
    version book sound limit outcome count closing nodes grown truth spelled
