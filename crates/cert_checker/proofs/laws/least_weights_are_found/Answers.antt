use Rattle.cert_checker.proofs.LeastFound.{weight_found}
use Rattle.cert_checker.proofs.laws.least_weights_are_found.Goals as goal

pub returns : goal.returns
returns c = weight_found c.legal_routes_rise.ensures c.legal_route_decides.ensures c.fits_decides.ensures
