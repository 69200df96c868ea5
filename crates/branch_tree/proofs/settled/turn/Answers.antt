use Rattle.std.proofs.Common.{◌≡◌, rules, subst, length}
use Rattle.restricted_master.specs.Seen.{PoolSeen}
use Rattle.node_leaves.specs.inside.NewRoutes.{HasAll}
use Rattle.branch_tree.proofs.Pools.{open_attained, open_counts, open_fits, open_found, settled_by_pool}
use Rattle.node_leaves.proofs.Pools.{all_routes}
use Rattle.branch_tree.proofs.Rising.{end_rises}
use Rattle.branch_tree.proofs.settled.turn.Goals as goal

-- what was added fits
pub returns-in_err-add_routes-in-Open-clause-pool : goal.returns-in_err-add_routes-in-Open-clause-pool
returns-in_err-add_routes-in-Open-clause-pool c =
    c.add_routes.ensures.fitting c.args.marks.now.facts c.requires.pool
    (open_fits c.args.table.now c.args.book.now c.args.marks.now.facts c.args.duals.now.values c.weigh.new.best.target c.in_ok-end.field-0 c.in-Open.found
    c.in_ok-end.ensures.weighed c.in-Open.is c.deref.result.now c.deref.ensures.value)

pub returns-then-branch-clause-pool : goal.returns-then-branch-clause-pool
returns-then-branch-clause-pool c =
    c.add_routes.ensures.fitting c.args.marks.now.facts c.requires.pool
    (open_fits c.args.table.now c.args.book.now c.args.marks.now.facts c.args.duals.now.values c.weigh.new.best.target c.in_ok-end.field-0 c.in-Open.found
    c.in_ok-end.ensures.weighed c.in-Open.is c.deref.result.now c.deref.ensures.value)

-- and is a route of each aircraft
pub returns-then-branch-clause-routes : goal.returns-then-branch-clause-routes
returns-then-branch-clause-routes c =
    let all : HasAll c.add_routes.new.pool c.deref.result.now (length c.deref.result.now) = search rules in
    all_routes c.args.book.now c.add_routes.new.pool c.deref.result.now
    (open_counts c.args.table.now c.args.book.now c.args.marks.now.facts c.args.duals.now.values c.weigh.new.best.target c.in_ok-end.field-0 c.in-Open.found
    c.in_ok-end.ensures.weighed c.in-Open.is c.deref.result.now c.deref.ensures.value)
    all

-- nothing was added, so the least weights are the pool's
pub split-requires-clause-settled : goal.split-requires-clause-settled
split-requires-clause-settled c =
    let table = c.args.table.now in let book = c.args.book.now in let marks = c.args.marks.now.facts in let duals = c.args.duals.now.values in
    let routes = c.deref.result.now in let target = c.weigh.new.best.target in let found = c.in-Open.found in
    let same : c.add_routes.new.pool ≡ c.args.pool.now = search rules in
    let all : HasAll c.add_routes.new.pool routes (length routes) = search rules in
    settled_by_pool c.least_in_is_least.ensures c.settled_over_pool_is_settled.ensures table book marks duals found.values.items routes c.args.pool.now
    c.requires.pool.fitting c.requires.settled
    (open_found table book marks duals target c.in_ok-end.field-0 found c.in_ok-end.ensures.weighed c.in-Open.is routes c.deref.ensures.value).least
    (open_attained table book marks duals target c.in_ok-end.field-0 found c.in_ok-end.ensures.weighed c.in-Open.is routes c.deref.ensures.value)
    (subst (λ (p : PoolSeen). HasAll p routes (length routes)) same all)

-- and so a split bounds no lower than duals that come to no more over the pool
pub returns-in_ok-end-in-Open-clause-rises : goal.returns-in_ok-end-in-Open-clause-rises
returns-in_ok-end-in-Open-clause-rises c = λ from over.
    let table = c.args.table.now in let book = c.args.book.now in let marks = c.args.marks.now.facts in let duals = c.args.duals.now.values in
    let routes = c.deref.result.now in let target = c.weigh.new.best.target in let found = c.in-Open.found in
    let same : c.add_routes.new.pool ≡ c.args.pool.now = search rules in
    let all : HasAll c.add_routes.new.pool routes (length routes) = search rules in
    end_rises c.least_in_is_least.ensures table book marks from duals c.split.new.best.target c.args.pool.now c.requires.pool.fitting found.values.items routes
    (open_found table book marks duals target c.in_ok-end.field-0 found c.in_ok-end.ensures.weighed c.in-Open.is routes c.deref.ensures.value).least
    (open_attained table book marks duals target c.in_ok-end.field-0 found c.in_ok-end.ensures.weighed c.in-Open.is routes c.deref.ensures.value)
    (subst (λ (p : PoolSeen). HasAll p routes (length routes)) same all) over c.in_ok-end-in-Open.end c.in_ok-end-in-Open.ensures.end
