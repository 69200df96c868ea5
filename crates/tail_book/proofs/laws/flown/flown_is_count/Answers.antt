use Rattle.tail_book.proofs.FlownTimes.{flown_is_count}
use Rattle.tail_book.proofs.laws.flown.flown_is_count.Goals as goal

pub returns : goal.returns
returns c n flown = flown_is_count n flown
