use Rattle.tail_book.proofs.SoundTested.{book_tested}
use Rattle.tail_book.proofs.laws.book_decides.Goals as goal

pub returns : goal.returns
returns c book = book_tested book
