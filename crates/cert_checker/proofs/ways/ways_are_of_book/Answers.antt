use Rattle.cert_checker.proofs.MetWays.{of_book}
use Rattle.cert_checker.proofs.ways.ways_are_of_book.Goals as goal

pub returns : goal.returns
returns c book k x = λ i d lt. of_book c.rows_are_their_places.ensures c.rows_rise.ensures book k x i d lt
