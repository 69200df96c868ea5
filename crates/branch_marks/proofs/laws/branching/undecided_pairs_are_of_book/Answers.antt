use Rattle.branch_marks.proofs.Branches.{undecided_of_book}
use Rattle.branch_marks.proofs.laws.branching.undecided_pairs_are_of_book.Goals as goal

pub returns : goal.returns
returns c = undecided_of_book
