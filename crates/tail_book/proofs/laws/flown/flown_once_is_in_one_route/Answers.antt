use Rattle.tail_book.proofs.FlownTimes.{once_is_in_one}
use Rattle.tail_book.proofs.laws.flown.flown_once_is_in_one_route.Goals as goal

pub returns : goal.returns
returns c n routes rise a = once_is_in_one n routes rise a
