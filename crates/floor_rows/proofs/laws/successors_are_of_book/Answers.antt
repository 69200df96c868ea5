use Rattle.floor_rows.proofs.Neighbours.{of_book}
use Rattle.floor_rows.proofs.laws.successors_are_of_book.Goals as goal

pub returns : goal.returns
returns c = of_book c.rows_are_their_places.ensures c.rows_rise.ensures
