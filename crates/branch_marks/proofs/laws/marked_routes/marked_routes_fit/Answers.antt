use Rattle.branch_marks.proofs.Fitting.{fits_marked}
use Rattle.branch_marks.proofs.laws.marked_routes.marked_routes_fit.Goals as goal

pub returns : goal.returns
returns c book sound marks plan legal hold k hk = fits_marked c.legal_routes_rise.ensures c.each_is_flown_once.ensures book sound plan legal k hk marks hold
