use Rattle.branch_marks.proofs.UsableAlong.{fits_to_its_end}
use Rattle.branch_marks.proofs.laws.marked_routes.fits_is_usable_to_its_end.Goals as goal

pub returns : goal.returns
returns c = fits_to_its_end
