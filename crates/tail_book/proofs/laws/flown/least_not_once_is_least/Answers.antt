use Rattle.tail_book.proofs.FlownTimes.{least_is_least}
use Rattle.tail_book.proofs.laws.flown.least_not_once_is_least.Goals as goal

pub returns : goal.returns
returns c routes n = least_is_least routes n
