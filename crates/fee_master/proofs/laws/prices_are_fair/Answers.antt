use Rattle.fee_master.proofs.Fair.{are_fair}
use Rattle.fee_master.proofs.laws.prices_are_fair.Goals as goal

pub returns : goal.returns
returns c = are_fair c.entries_are_small.ensures c.own_costs_are_for_book.ensures c.rising_routes_are_short.ensures
