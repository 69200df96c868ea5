use Rattle.tail_book.proofs.TableCosts.{own_costs_for_book}
use Rattle.tail_book.proofs.laws.own_costs_are_for_book.Goals as goal

pub returns : goal.returns
returns c book = own_costs_for_book book
