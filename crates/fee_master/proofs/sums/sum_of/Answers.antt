use Rattle.std.proofs.Common.{arith}
use Rattle.std.proofs.lemmas.Int.{ints}
use Rattle.fee_master.proofs.Fair.{fair_lines, few_clear}
use Rattle.fee_master.proofs.Rises.{clear_sum}
use Rattle.fee_master.proofs.sums.sum_of.Goals as goal

-- weights and fees are fair
pub touch_all-values-requires-clause-fair : goal.touch_all-values-requires-clause-fair
touch_all-values-requires-clause-fair c =
    let fair = c.prices_are_fair.ensures c.args.fixed.now c.args.duals.now c.args.fees.now c.every_book_is_sound.ensures c.every_cost_table_is_sound.ensures c.requires.fixed
    c.requires.priced.duals_of c.requires.priced.fees_of in
    fair_lines c.args.fixed.now c.args.duals.now c.args.fees.now c.args.weights.now c.args.times.now c.requires.priced fair (few_clear c.args.fixed.now c.args.times.now c.requires.clear)

pub returns : goal.returns
returns c =
    let values = c.touch_all-values.ensures.range in
    let duals = c.total.ensures.range in
    let fees = c.fees_at_most.ensures.range in
    let sum = clear_sum c.args.fixed.now c.args.duals.now c.args.fees.now c.args.weights.now c.requires.fixed c.requires.priced c.args.times.now c.requires.clear
    c.touch_all-values.result.sum c.touch_all-values.ensures.touching.on in
    let one = c.total.ensures.value in
    let two = c.fees_at_most.ensures.value in
    omega (arith, ints, values, duals, fees, sum, one, two)
