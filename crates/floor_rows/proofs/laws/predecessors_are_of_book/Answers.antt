use Rattle.floor_rows.proofs.Neighbours.{before_of_book}
use Rattle.floor_rows.proofs.laws.predecessors_are_of_book.Goals as goal

pub returns : goal.returns
returns c = before_of_book c.rows_are_their_places.ensures c.rows_rise.ensures
