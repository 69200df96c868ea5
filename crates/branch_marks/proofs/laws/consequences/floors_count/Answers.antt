use Rattle.tail_book.specs.Lookup.{activities}
use Rattle.branch_marks.proofs.Floors.{below_length}
use Rattle.branch_marks.proofs.laws.consequences.floors_count.Goals as goal

pub returns : goal.returns
returns c book marks k = below_length book marks k (activities book)
