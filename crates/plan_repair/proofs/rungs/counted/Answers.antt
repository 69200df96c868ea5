use Rattle.std.proofs.Common.{◌*◌, ◌^◌, ◌<◌}
use Rattle.tail_book.specs.Cost.{plan_cost}
use Rattle.plan_homes.specs.Moves.{moves}
use Rattle.plan_repair.specs.declared.least_plans.LeastPlan.{LeastPlan}
use Rattle.plan_repair.proofs.LeastPlans.{below_sum, cost_of_least, few_moves, least_of, part_of, rest_of}
use Rattle.plan_repair.proofs.rungs.counted.Goals as goal

-- the cost by the raised table is the plan's own and the raise for each move, so neither passes its type
pub moves-moves-requires-clause-range : goal.moves-moves-requires-clause-range
moves-moves-requires-clause-range c =
    let found : LeastPlan = record { plan = c.args.plan; cost = c.args.cost } in
    few_moves c.args.cost (plan_cost c.args.book.now c.args.plan) c.args.raise (moves c.args.homes.now c.args.plan) (2 ^ 64)
    (cost_of_least c.raised_plans_cost.ensures c.args.book.now c.args.homes.now c.own_costs_are_for_book.ensures c.own_costs_of_legal_plans.ensures c.args.raise found c.requires.least)
    c.requires.low c.ranges.cost.fits

pub overflow_mul-result : goal.overflow_mul-result
overflow_mul-result c =
    let found : LeastPlan = record { plan = c.args.plan; cost = c.args.cost } in
    let below : c.args.raise * moves c.args.homes.now c.args.plan < 2 ^ 64 =
    below_sum c.args.cost (plan_cost c.args.book.now c.args.plan) c.args.raise (moves c.args.homes.now c.args.plan) (2 ^ 64)
    (cost_of_least c.raised_plans_cost.ensures c.args.book.now c.args.homes.now c.own_costs_are_for_book.ensures c.own_costs_of_legal_plans.ensures c.args.raise found c.requires.least)
    c.ranges.cost.fits in
    rw c.moves-moves.ensures (record { fits = below })

pub overflow_sub-result : goal.overflow_sub-result
overflow_sub-result c =
    let found : LeastPlan = record { plan = c.args.plan; cost = c.args.cost } in
    rw c.moves-moves.ensures (part_of c.args.cost (plan_cost c.args.book.now c.args.plan) c.args.raise (moves c.args.homes.now c.args.plan)
    (cost_of_least c.raised_plans_cost.ensures c.args.book.now c.args.homes.now c.own_costs_are_for_book.ensures c.own_costs_of_legal_plans.ensures c.args.raise found c.requires.least))

pub returns : goal.returns
returns c =
    let found : LeastPlan = record { plan = c.args.plan; cost = c.args.cost } in
    record {
      least = least_of c.raised_plans_cost.ensures c.args.book.now c.args.homes.now c.own_costs_are_for_book.ensures c.own_costs_of_legal_plans.ensures c.args.raise found c.requires.least;
      count = c.moves-moves.ensures;
      cost = rw c.moves-moves.ensures (rest_of c.args.cost (plan_cost c.args.book.now c.args.plan) c.args.raise (moves c.args.homes.now c.args.plan)
          (cost_of_least c.raised_plans_cost.ensures c.args.book.now c.args.homes.now c.own_costs_are_for_book.ensures c.own_costs_of_legal_plans.ensures c.args.raise found c.requires.least));
    }
