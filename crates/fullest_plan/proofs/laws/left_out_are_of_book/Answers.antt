use Rattle.fullest_plan.proofs.LeavingOut.{are_of_book}
use Rattle.fullest_plan.proofs.laws.left_out_are_of_book.Goals as goal

pub returns : goal.returns
returns c book list left = are_of_book book list left
