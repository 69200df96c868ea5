use Rattle.tail_book.proofs.FlownTimes.{times_more}
use Rattle.tail_book.proofs.laws.flown.times_with_one_more_route.Goals as goal

pub returns : goal.returns
returns c routes route a = times_more routes route a
