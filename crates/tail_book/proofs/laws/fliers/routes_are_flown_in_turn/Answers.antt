use Rattle.tail_book.proofs.InTurn.{in_turn}
use Rattle.tail_book.proofs.laws.fliers.routes_are_flown_in_turn.Goals as goal

pub returns : goal.returns
returns c = in_turn
