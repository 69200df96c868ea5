use Rattle.std.proofs.Common.{◌∷◌, [], arith, map}
use Rattle.std.proofs.lemmas.List.{append_assoc}
use Rattle.std.proofs.lemmas.List.FromFn.{map-range_with_len_more}
use Rattle.std.specs.List.{range_with_len}
use Rattle.plan_repair.specs.inside.Raised.{raised_cost}
use Rattle.plan_repair.proofs.raised.add_costs.Goals as goal

-- the next cost stands last
pub loop-a-preserved : goal.loop-a-preserved
loop-a-preserved c =
    let f = raised_cost c.args.table.now c.args.homes.now c.args.raise c.args.k in
    let more = map-range_with_len_more f 0 c.loop-a.a c.loop-a.a (omega arith) in
    rw (c.in_ok-push.ensures.items, c.loop-a.invariant, c.raised_cost.ensures, more)
    (append_assoc c.args.fly.now.items (map f (range_with_len 0 c.loop-a.a)) (f c.loop-a.a ∷ []))
