use Rattle.tail_book.proofs.Renumbered.{count_alike}
use Rattle.tail_book.proofs.laws.renumbered.renumbered_routes_count.Goals as goal

pub returns : goal.returns
returns c book other fleet k route others same = count_alike book other fleet k route others same
