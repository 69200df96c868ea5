use Rattle.branch_marks.proofs.Dominance.{family_bound}
use Rattle.branch_marks.proofs.laws.covering.closed_families_bound.Goals as goal

pub returns : goal.returns
returns c = family_bound c.each_at_most_itself.ensures c.each_at_most_chains.ensures c.steps_keep_order.ensures c.lower_stays_within.ensures c.weight_is_along.ensures
