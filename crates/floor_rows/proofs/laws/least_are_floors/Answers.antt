use Rattle.tail_book.specs.Lookup.{activities}
use Rattle.floor_rows.proofs.LeastOver.{least_floors}
use Rattle.floor_rows.proofs.laws.least_are_floors.Goals as goal

pub returns : goal.returns
returns c book marks k floor is b lt = least_floors c.floors_are_least.ensures book marks k floor is (activities book) b lt lt
