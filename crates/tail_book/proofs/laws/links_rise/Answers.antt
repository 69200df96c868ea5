use Rattle.tail_book.proofs.Rise.{link_rises}
use Rattle.tail_book.proofs.Timed.{timed_of}
use Rattle.tail_book.proofs.laws.links_rise.Goals as goal

pub returns : goal.returns
returns c book sound k x b hx hb link = link_rises book (timed_of book sound) k x b hx hb link
