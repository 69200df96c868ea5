use Rattle.tail_book.proofs.FlownTimes.{flown_more}
use Rattle.tail_book.proofs.laws.flown.flown_with_one_more.Goals as goal

pub returns : goal.returns
returns c n = flown_more n
