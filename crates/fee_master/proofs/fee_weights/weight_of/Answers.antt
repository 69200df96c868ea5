use Rattle.std.proofs.Common.{◌≡◌, ◌∙◌, ℕ, List, ap, arith, get_or, []}
use Rattle.std.proofs.lemmas.Int.{ints}
use Rattle.std.proofs.lemmas.List.{get_or-map}
use Rattle.branch_marks.specs.Weights.{duals_on}
use Rattle.restricted_master.specs.Pool.{entry_at, entry_cost}
use Rattle.fee_master.proofs.Fair.{fair_fees}
use Rattle.fee_master.proofs.Paid.{paid_is}
use Rattle.fee_master.proofs.fee_weights.weight_of.Goals as goal

-- fees are fair
pub paid-requires-clause-fair : goal.paid-requires-clause-fair
paid-requires-clause-fair c =
    let fair = c.prices_are_fair.ensures c.args.fixed.now c.args.duals.now c.args.fees.now c.every_book_is_sound.ensures c.every_cost_table_is_sound.ensures c.requires.fixed
    c.requires.duals c.requires.fees in
    fair_fees c.args.fixed.now.table.now c.args.fees.now fair.box c.requires.fees.box

-- the cost is kept, and the weight is fair
pub overflow_cast-result : goal.overflow_cast-result
overflow_cast-result c =
    let fixed = c.args.fixed.now in
    let fair = c.prices_are_fair.ensures fixed c.args.duals.now c.args.fees.now c.every_book_is_sound.ensures c.every_cost_table_is_sound.ensures c.requires.fixed
    c.requires.duals c.requires.fees in
    let weight = fair.weights c.args.i c.requires.route in
    let cost : c.cost.result ≡ entry_cost fixed.table.now fixed.book.now (entry_at fixed.pool.now c.args.i) =
    c.cost.ensures ∙ ap (λ (cs : List ℕ). get_or cs c.args.i 0) c.requires.fixed.pool_for.costs
    ∙ get_or-map (entry_cost fixed.table.now fixed.book.now) fixed.pool.now.entries c.args.i (record { aircraft = 0; route = [] }) 0 c.requires.route in
    let sum = c.duals_on.ensures.value ∙ ap (duals_on c.args.duals.now) c.route.ensures in
    let paid = c.paid.ensures.value
    ∙ paid_is fixed.book.now fixed.pool.now c.args.i c.requires.route fixed.quotas.now fixed.uses.now c.args.fees.now c.requires.fixed.uses_of c.requires.fees.one_each in
    let one = c.duals_on.ensures.range in
    let two = c.paid.ensures.range in
    omega (arith, ints, weight, cost, sum, paid, one, two, c.cost.type_inv, c.duals_on.type_inv, c.paid.type_inv)

pub returns : goal.returns
returns c =
    let fixed = c.args.fixed.now in
    let fair = c.prices_are_fair.ensures fixed c.args.duals.now c.args.fees.now c.every_book_is_sound.ensures c.every_cost_table_is_sound.ensures c.requires.fixed
    c.requires.duals c.requires.fees in
    let weight = fair.weights c.args.i c.requires.route in
    let cost : c.cost.result ≡ entry_cost fixed.table.now fixed.book.now (entry_at fixed.pool.now c.args.i) =
    c.cost.ensures ∙ ap (λ (cs : List ℕ). get_or cs c.args.i 0) c.requires.fixed.pool_for.costs
    ∙ get_or-map (entry_cost fixed.table.now fixed.book.now) fixed.pool.now.entries c.args.i (record { aircraft = 0; route = [] }) 0 c.requires.route in
    let sum = c.duals_on.ensures.value ∙ ap (duals_on c.args.duals.now) c.route.ensures in
    let paid = c.paid.ensures.value
    ∙ paid_is fixed.book.now fixed.pool.now c.args.i c.requires.route fixed.quotas.now fixed.uses.now c.args.fees.now c.requires.fixed.uses_of c.requires.fees.one_each in
    let one = c.duals_on.ensures.range in
    let two = c.paid.ensures.range in
    omega (arith, ints, weight, cost, sum, paid, one, two, c.cost.type_inv, c.duals_on.type_inv, c.paid.type_inv)
