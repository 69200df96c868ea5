use Rattle.branch_tree.proofs.Pools.{open_fits}
use Rattle.branch_tree.proofs.rounds.look.Goals as goal

-- what was added fits
pub returns-in_err-add_routes-clause-pool : goal.returns-in_err-add_routes-clause-pool
returns-in_err-add_routes-clause-pool c =
    c.add_routes.ensures.fitting c.args.marks.now.facts c.requires.pool
    (open_fits c.args.table.now c.args.book.now c.args.marks.now.facts c.args.duals.now.values c.weigh.new.best.target c.in_ok-weighed.weighed c.in-Open.found
    c.in_ok-weighed.ensures.weighed c.in-Open.is c.deref.result.now c.deref.ensures.value)

pub add_all_suggestions-requires-clause-pool : goal.add_all_suggestions-requires-clause-pool
add_all_suggestions-requires-clause-pool c =
    c.add_routes.ensures.fitting c.args.marks.now.facts c.requires.pool
    (open_fits c.args.table.now c.args.book.now c.args.marks.now.facts c.args.duals.now.values c.weigh.new.best.target c.in_ok-weighed.weighed c.in-Open.found
    c.in_ok-weighed.ensures.weighed c.in-Open.is c.deref.result.now c.deref.ensures.value)
