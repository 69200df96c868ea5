use Rattle.tail_book.specs.declared.place.Place.TheVariants.{Carry}
use Rattle.tail_book.proofs.OneMore.{cost_more_in}
use Rattle.tail_book.proofs.laws.one_more.cost_with_one_more_in.Goals as goal

pub returns : goal.returns
returns c table book k route b = cost_more_in table book k Carry route b
