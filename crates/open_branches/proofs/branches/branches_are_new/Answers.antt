use Rattle.open_branches.proofs.BranchLists.{new_branches}
use Rattle.open_branches.proofs.branches.branches_are_new.Goals as goal

pub returns : goal.returns
returns c = new_branches c.undecided_decides.ensures c.has_fact_decides.ensures c.undecided_pairs_are_of_book.ensures
