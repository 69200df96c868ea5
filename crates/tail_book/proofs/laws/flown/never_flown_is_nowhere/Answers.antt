use Rattle.tail_book.proofs.FlownTimes.{never_is_nowhere}
use Rattle.tail_book.proofs.laws.flown.never_flown_is_nowhere.Goals as goal

pub returns : goal.returns
returns c routes a = never_is_nowhere routes a
