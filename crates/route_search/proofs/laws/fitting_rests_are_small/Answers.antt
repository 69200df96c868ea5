use Rattle.route_search.proofs.Small.{fits_is_small}
use Rattle.route_search.proofs.laws.fitting_rests_are_small.Goals as goal

pub returns : goal.returns
returns c = fits_is_small c.links_rise.ensures c.reduced_costs_are_small.ensures c.weights_along.ensures
