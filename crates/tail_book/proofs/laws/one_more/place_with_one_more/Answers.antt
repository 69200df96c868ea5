use Rattle.tail_book.proofs.OneMore.{place_more}
use Rattle.tail_book.proofs.laws.one_more.place_with_one_more.Goals as goal

pub returns : goal.returns
returns c x route b = place_more x route b
