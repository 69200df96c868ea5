use Rattle.std.proofs.Common.{[], rules}
use Rattle.branch_tree.proofs.Pools.{no_routes}
use Rattle.branch_tree.proofs.search_state.SearchState.new.Goals as goal

-- each part is right for the book as it is made
pub returns-clause-state : goal.returns-clause-state
returns-clause-state c = record {
  net = search rules;
  places = search rules;
  pool = no_routes c.args.table.now c.args.book.now c.in_ok-new-2.field-0 c.in_ok-new-2.ensures;
  best = search rules;
  prices = c.in_ok-tools.ensures.prices;
  diver = ([], c.in_ok-tools.ensures.diver []);
}
