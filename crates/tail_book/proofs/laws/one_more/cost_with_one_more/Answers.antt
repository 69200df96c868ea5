use Rattle.tail_book.specs.declared.place.Place.TheVariants.{Carry}
use Rattle.tail_book.proofs.OneMore.{cost_more}
use Rattle.tail_book.proofs.laws.one_more.cost_with_one_more.Goals as goal

pub returns : goal.returns
returns c book k route b = cost_more book k Carry route b
