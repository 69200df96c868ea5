use Rattle.route_search.proofs.Bound.{same}
use Rattle.route_search.proofs.laws.clamped_cuts_find_the_same.Goals as goal

pub returns : goal.returns
returns c = same c.fitting_rests_are_small.ensures c.weight_is_along.ensures
