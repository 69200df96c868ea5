use Rattle.tail_book.proofs.FlownTimes.{once_tested}
use Rattle.tail_book.proofs.laws.flown.flown_once_decides.Goals as goal

pub returns : goal.returns
returns c routes a = once_tested routes a
