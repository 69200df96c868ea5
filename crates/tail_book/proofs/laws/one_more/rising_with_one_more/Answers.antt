use Rattle.tail_book.proofs.OneMore.{rising_more}
use Rattle.tail_book.proofs.laws.one_more.rising_with_one_more.Goals as goal

pub returns : goal.returns
returns c n x route b = rising_more n x route b
