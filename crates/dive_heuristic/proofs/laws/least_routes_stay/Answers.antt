use Rattle.dive_heuristic.proofs.FewerMarks.{least_stays}
use Rattle.dive_heuristic.proofs.laws.least_routes_stay.Goals as goal

pub returns : goal.returns
returns c table book marks more k duals route = least_stays c.fits_with_fewer.ensures table book marks more duals k route
