use Rattle.tail_book.specs.declared.place.Place.TheVariants.{Carry}
use Rattle.tail_book.specs.Lookup.{carry_of}
use Rattle.tail_book.proofs.Rise.{rises_from}
use Rattle.tail_book.proofs.Timed.{timed_of}
use Rattle.tail_book.proofs.laws.legal_routes_rise.Goals as goal

pub returns : goal.returns
returns c book sound k route legal = rises_from book (timed_of book sound) k Carry (carry_of book k) route tt legal
