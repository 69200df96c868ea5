use Rattle.std.proofs.Common.{◌∷◌, [], arith, map}
use Rattle.std.proofs.lemmas.List.{append_assoc}
use Rattle.std.proofs.lemmas.List.FromFn.{map-range_with_len_more}
use Rattle.std.specs.List.{range_with_len}
use Rattle.tail_book.specs.Cost.{activity_cost}
use Rattle.tail_book.proofs.cost_table.add_costs.Goals as goal

-- the next cost stands last
pub loop-a-preserved : goal.loop-a-preserved
loop-a-preserved c =
    let f = activity_cost c.args.book.now c.args.k in
    let more = map-range_with_len_more f 0 c.loop-a.a c.loop-a.a (omega arith) in
    rw (c.in_ok-push.ensures.items, c.loop-a.invariant, c.flying_cost.ensures, more)
    (append_assoc c.args.fly.now.items (map f (range_with_len 0 c.loop-a.a)) (f c.loop-a.a ∷ []))
