use Rattle.std.proofs.Common.{◌≡◌, length, rules, subst}
use Rattle.restricted_master.specs.Seen.{PoolSeen}
use Rattle.node_leaves.specs.inside.NewRoutes.{HasAll}
use Rattle.node_leaves.proofs.Pools.{all_routes}
use Rattle.quota_node.proofs.FoundRoutes.{settled_by_pool}
use Rattle.quota_node.proofs.Looks.{open_attained, open_counts, open_fits, open_found}
use Rattle.quota_node.proofs.settled.turn.Goals as goal

-- what was added fits
pub returns-in_err-add_routes-clause-pool : goal.returns-in_err-add_routes-clause-pool
returns-in_err-add_routes-clause-pool c =
    c.add_routes.ensures.fitting c.args.marks.now.facts c.requires.pool
    (open_fits c.args.table.now c.args.book.now c.args.quotas.now c.args.marks.now.facts c.args.duals.now.values c.args.fees.now.values c.args.best.now.target
    c.in_ok-weighed.weighed c.in-Open.found c.in_ok-weighed.ensures.weighed c.in-Open.is c.deref.result.now c.deref.ensures.value)

pub returns-then-branch-clause-pool : goal.returns-then-branch-clause-pool
returns-then-branch-clause-pool c =
    c.add_routes.ensures.fitting c.args.marks.now.facts c.requires.pool
    (open_fits c.args.table.now c.args.book.now c.args.quotas.now c.args.marks.now.facts c.args.duals.now.values c.args.fees.now.values c.args.best.now.target
    c.in_ok-weighed.weighed c.in-Open.found c.in_ok-weighed.ensures.weighed c.in-Open.is c.deref.result.now c.deref.ensures.value)

-- and is a route of each aircraft
pub returns-then-branch-clause-routes : goal.returns-then-branch-clause-routes
returns-then-branch-clause-routes c =
    let all : HasAll c.add_routes.new.pool c.deref.result.now (length c.deref.result.now) = search rules in
    all_routes c.args.book.now c.add_routes.new.pool c.deref.result.now
    (open_counts c.args.table.now c.args.book.now c.args.quotas.now c.args.marks.now.facts c.args.duals.now.values c.args.fees.now.values c.args.best.now.target
    c.in_ok-weighed.weighed c.in-Open.found c.in_ok-weighed.ensures.weighed c.in-Open.is c.deref.result.now c.deref.ensures.value)
    all

-- nothing was added, so the least weights are the pool's
pub split-requires-clause-settled : goal.split-requires-clause-settled
split-requires-clause-settled c =
    let table = c.args.table.now in let book = c.args.book.now in let quotas = c.args.quotas.now in let marks = c.args.marks.now.facts in
    let duals = c.args.duals.now.values in let fees = c.args.fees.now.values in let target = c.args.best.now.target in
    let routes = c.deref.result.now in let found = c.in-Open.found in
    let same : c.add_routes.new.pool ≡ c.args.pool.now = search rules in
    let all : HasAll c.add_routes.new.pool routes (length routes) = search rules in
    settled_by_pool table book quotas marks duals fees found.values.items routes
    (open_attained table book quotas marks duals fees target c.in_ok-weighed.weighed found c.in_ok-weighed.ensures.weighed c.in-Open.is routes c.deref.ensures.value)
    c.args.pool.now (subst (λ (p : PoolSeen). HasAll p routes (length routes)) same all) c.settled_over_pool_is_settled.ensures c.requires.pool.fitting
    c.requires.settled
    (open_found table book quotas marks duals fees target c.in_ok-weighed.weighed found c.in_ok-weighed.ensures.weighed c.in-Open.is routes
    c.deref.ensures.value).routes.least
