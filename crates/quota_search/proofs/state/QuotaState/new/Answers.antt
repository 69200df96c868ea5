use Rattle.std.proofs.Common.{rules}
use Rattle.quota_search.proofs.state.QuotaState.new.Goals as goal

-- each part is right for the book as it is made
pub returns-clause-state : goal.returns-clause-state
returns-clause-state c = record {
  net = c.requires.net;
  branches = c.in_ok-branches.ensures.branches;
  routes = c.in_ok-routes.ensures c.args.table.now c.args.book.now;
  duals = c.in_ok-duals.ensures;
  fees = c.in_ok-fees.ensures;
  behind = search rules;
  best = search rules;
  kept = search rules;
  tools = c.in_ok-tools.ensures;
}
