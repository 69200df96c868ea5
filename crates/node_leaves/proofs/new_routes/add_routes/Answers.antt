use Rattle.std.proofs.Common.{Bool, sym, subst, rules, ◌<◌, length}
use Rattle.node_leaves.specs.inside.NewRoutes.{HasGrown}
use Rattle.node_leaves.proofs.Pools.{all_more, grown_before, grown_later}
use Rattle.node_leaves.proofs.new_routes.add_routes.Goals as goal
use Rattle.node_leaves.proofs.new_routes.add_routes.Goals.{then-branch, else-branch}

-- one route more
pub loop-k-preserved : goal.loop-k-preserved
loop-k-preserved c =
    let adds = c.in_ok-add_route.ensures.added in
    let first = c.args.pool.now in let old = c.loop-k.pool in let new = c.add_route.new.pool in
    let within : c.loop-k.k < length c.args.routes.now = search rules in
    record {
      all = all_more old new c.args.routes.now c.loop-k.k c.in_ok-add_route.field-0 c.loop-k.invariant.all adds;
      grown = elim c.if-branch.branch [
        | then-branch w ↦ subst (λ (b : Bool). HasGrown first new b) (sym w.grew-is)
            (grown_later first old new c.loop-k.grew c.loop-k.invariant.grown (subst (λ (b : Bool). HasGrown old new b) w.if-branch.true adds.grown))
        | else-branch w ↦ subst (λ (b : Bool). HasGrown first new b) (sym w.grew-is)
            (grown_before first old new c.loop-k.grew c.loop-k.invariant.grown (subst (λ (b : Bool). HasGrown old new b) w.if-branch.false adds.grown))
      ];
      fitting = λ facts fits are. c.add_route.ensures.fitting facts (c.loop-k.invariant.fitting facts fits are) (are c.loop-k.k within);
    }

-- what was added before memory ran out fits
pub returns-in_err-add_route-clause-fitting : goal.returns-in_err-add_route-clause-fitting
returns-in_err-add_route-clause-fitting c =
    let within : c.loop-k.k < length c.args.routes.now = search rules in
    λ facts fits are. c.add_route.ensures.fitting facts (c.loop-k.invariant.fitting facts fits are) (are c.loop-k.k within)
