use Rattle.std.proofs.Common.{◌≡◌, arith, get_or, rules}
use Rattle.quota_rows.specs.KeptPlans.{uses_in}
use Rattle.quota_rows.proofs.UseLemmas.{plan_uses_few, routes_step}
use Rattle.quota_rows.proofs.plan_uses.uses_of_routes.Goals as goal

-- what is counted is no more than the uses of all routes, and these are no more than their activities
pub overflow_add-count : goal.overflow_add-count
overflow_add-count c =
    let route = c.index-routes-k.result in
    let is : get_or c.args.routes.now c.loop-k.k route ≡ route = search rules in
    let value : c.uses_in-count.result ≡ uses_in c.args.book.now c.args.quota.now route = search rules in
    let step = routes_step c.args.book.now c.args.quota.now c.args.routes.now c.loop-k.k route c.loop-k-test.true is in
    let few = plan_uses_few c.args.book.now c.args.quota.now c.args.routes.now in
    omega (arith, c.loop-k.invariant, step, few, c.requires.few, value)
