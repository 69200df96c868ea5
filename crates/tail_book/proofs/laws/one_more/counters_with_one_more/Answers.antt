use Rattle.tail_book.specs.declared.place.Place.TheVariants.{Carry}
use Rattle.tail_book.specs.Lookup.{carry_of}
use Rattle.tail_book.proofs.OneMore.{counters_more}
use Rattle.tail_book.proofs.laws.one_more.counters_with_one_more.Goals as goal

pub returns : goal.returns
returns c book k route b = counters_more book k Carry (carry_of book k) route b
