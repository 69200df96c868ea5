use Rattle.quota_node.proofs.Looks.{open_fits}
use Rattle.quota_node.proofs.raising.look.Goals as goal

-- what was added fits
pub returns-in_err-add_routes-in-Open-clause-pool : goal.returns-in_err-add_routes-in-Open-clause-pool
returns-in_err-add_routes-in-Open-clause-pool c =
    c.add_routes.ensures.fitting c.args.marks.now.facts c.requires.pool
    (open_fits c.args.table.now c.args.book.now c.args.quotas.now c.args.marks.now.facts c.args.duals.now.values c.args.fees.now.values c.args.target
    c.in_ok-weighed.weighed c.in-Open.found c.in_ok-weighed.ensures.weighed c.in-Open.is c.deref.result.now c.deref.ensures.value)

pub returns-in_ok-add_routes-in-Open-clause-pool : goal.returns-in_ok-add_routes-in-Open-clause-pool
returns-in_ok-add_routes-in-Open-clause-pool c =
    c.add_routes.ensures.fitting c.args.marks.now.facts c.requires.pool
    (open_fits c.args.table.now c.args.book.now c.args.quotas.now c.args.marks.now.facts c.args.duals.now.values c.args.fees.now.values c.args.target
    c.in_ok-weighed.weighed c.in-Open.found c.in_ok-weighed.ensures.weighed c.in-Open.is c.deref.result.now c.deref.ensures.value)
