use Rattle.branch_marks.proofs.LeastWeights.{stuck_or_least}
use Rattle.branch_marks.proofs.laws.route_weights.least_weights_exist.Goals as goal

pub returns : goal.returns
returns c table book sound marks k duals =
    stuck_or_least c.legal_routes_rise.ensures c.legal_route_decides.ensures c.fits_decides.ensures table book sound marks k duals
