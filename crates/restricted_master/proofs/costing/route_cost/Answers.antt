use Rattle.std.proofs.Common.{◌<◌, ◌≤◌, ◌+◌, ◌*◌, ℕ, arith}
use Rattle.tail_book.specs.declared.place.Place.TheVariants.{Carry}
use Rattle.restricted_master.proofs.costing.route_cost.Goals as goal

more_most : (q n s cost leg : ℕ) → q < n → cost ≤ q * s → leg ≤ s → cost + leg ≤ n * s
more_most q n s cost leg below so_far here = grind arith

-- a route is no longer than the book
pub overflow_add-cost : goal.overflow_add-cost
overflow_add-cost c =
    let short = c.rising_routes_are_short.ensures _ Carry c.args.route.now c.requires.rising in
    let below : c.loop-q.q < c.args.table.now.n = omega (arith, short, c.loop-q-test.true, c.requires.table.activities) in
    let sum = more_most c.loop-q.q c.args.table.now.n (c.args.table.now.fly_max + c.args.table.now.band_max) c.loop-q.cost c.leg_cost-cost.result below
    c.loop-q.invariant.most c.leg_cost-cost.ensures.most in
    omega (arith, sum, c.greatest_cost.ensures.value, c.greatest_cost.ensures.most)
