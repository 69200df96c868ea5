use Rattle.dive_heuristic.proofs.FewerMarks.{fits_fewer}
use Rattle.dive_heuristic.proofs.laws.fits_with_fewer.Goals as goal

pub returns : goal.returns
returns c = fits_fewer
