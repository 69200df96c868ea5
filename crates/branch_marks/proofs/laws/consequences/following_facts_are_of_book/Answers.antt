use Rattle.branch_marks.proofs.Following.{following_of_book}
use Rattle.branch_marks.proofs.laws.consequences.following_facts_are_of_book.Goals as goal

pub returns : goal.returns
returns c = following_of_book
