use Rattle.std.proofs.Common.{◌≡◌, ◌∙◌, ◌+◌, ◌++◌, ap, rules, take}
use Rattle.std.specs.List.{flat_map}
use Rattle.std.proofs.lemmas.List.{take_all}
use Rattle.plan_audit.proofs.Deciding.{times-all, taken-routes}
use Rattle.plan_audit.proofs.legal_plan.count_routes.Goals as goal

-- the route is counted behind those so far
pub loop-route-preserved : goal.loop-route-preserved
loop-route-preserved c =
    let routes = c.args.routes.now in
    let i = c.loop-route.route-index in
    let here : c.deref.result.now ≡ c.route-item.result = search rules in
    record {
      counts = λ flown are. times-all c.count_route.new.times (flown ++ flat_map (λ r. r) (take i routes) ++ c.deref.result.now) (flown ++ flat_map (λ r. r) (take (i + 1) routes)) (ap (λ r. flown ++ flat_map (λ r. r) (take i routes) ++ r) here ∙ taken-routes flown routes i c.route-item.result c.loop-route-test.true c.route-item.is)
          (c.count_route.ensures.counts (flown ++ flat_map (λ r. r) (take i routes)) (c.loop-route.invariant.counts flown are));
      long = c.count_route.ensures.long ∙ c.loop-route.invariant.long;
    }

-- none is left
pub returns-clause-counts : goal.returns-clause-counts
returns-clause-counts c = λ flown are.
    let routes = c.args.routes.now in
    let i = c.loop-route.route-index in
    times-all c.loop-route.times (flown ++ flat_map (λ r. r) (take i routes)) (flown ++ flat_map (λ r. r) routes)
    (ap (λ rs. flown ++ flat_map (λ r. r) rs) (take_all i routes c.loop-route-test.false)) (c.loop-route.invariant.counts flown are)
