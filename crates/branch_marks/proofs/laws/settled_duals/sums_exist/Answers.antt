use Rattle.branch_marks.proofs.LeastWeights.{sum_exists}
use Rattle.branch_marks.proofs.laws.settled_duals.sums_exist.Goals as goal

pub returns : goal.returns
returns c table book sound marks duals free =
    sum_exists c.legal_routes_rise.ensures c.legal_route_decides.ensures c.fits_decides.ensures table book sound marks duals free
