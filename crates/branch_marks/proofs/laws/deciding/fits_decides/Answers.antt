use Rattle.tail_book.specs.declared.place.Place.TheVariants.{Carry}
use Rattle.branch_marks.proofs.MarksDecided.{fits_tested}
use Rattle.branch_marks.proofs.laws.deciding.fits_decides.Goals as goal

pub returns : goal.returns
returns c book marks k route = fits_tested c.usable_decides.ensures c.may_end_decides.ensures book marks k Carry route
