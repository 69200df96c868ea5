use Rattle.std.proofs.Common.{arith, ◌+◌}
use Rattle.tail_book.specs.CostTable.{greatest_cost_in}
use Rattle.branch_marks.proofs.laws.showing.shown_trees_refute.Goals as goal

pub returns : goal.returns
returns c table book sound costs for tree shown bounds plan legal =
    let low = c.shown_roots_bound.ensures table book sound tree (greatest_cost_in table + 1) shown bounds plan legal in
    let high = c.legal_plans_cost_at_most_in.ensures book table sound costs for plan legal in
    absurd (omega (arith, low, high))
