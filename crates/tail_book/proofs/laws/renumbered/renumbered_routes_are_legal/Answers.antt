use Rattle.tail_book.proofs.Renumbered.{legal_alike_both}
use Rattle.tail_book.proofs.laws.renumbered.renumbered_routes_are_legal.Goals as goal

pub returns : goal.returns
returns c book other fleet k route others same = legal_alike_both book other fleet k route others same
