use Rattle.std.proofs.Common.{◌+◌, pos, arith, refl}
use Rattle.std.proofs.lemmas.Int.{ints}
use Rattle.tail_book.specs.Lookup.{activities}
use Rattle.fee_master.specs.inside.Settling.{AreAllSettled, greatest_sum, sum_for}
use Rattle.fee_master.proofs.Climbing.{room_falls}
use Rattle.fee_master.proofs.Looking.{looks_false, looks_no_less, looks_same_sum, looks_true}
use Rattle.fee_master.proofs.SumBound.{sum_most}
use Rattle.fee_master.proofs.settling.climb.Goals as goal

-- each sweep but the last leaves less up to the bound
pub loop-moved-smaller : goal.loop-moved-smaller
loop-moved-smaller c =
    let fixed = c.args.fixed.now in
    let all = AreAllSettled fixed c.sweep-moved.new.duals c.sweep-moved.new.fees in
    let before = c.loop-moved.invariant.priced in
    let after = c.sweep-moved.ensures.priced in
    room_falls (pos (greatest_sum fixed)) (sum_for fixed c.loop-moved.duals c.loop-moved.fees) (sum_for fixed c.sweep-moved.new.duals c.sweep-moved.new.fees)
    c.loop-moved.moved c.sweep-moved.result c.loop-moved-test.true
    (sum_most fixed c.loop-moved.duals c.loop-moved.fees
    (c.prices_are_fair.ensures fixed c.loop-moved.duals c.loop-moved.fees c.every_book_is_sound.ensures c.every_cost_table_is_sound.ensures c.requires.fixed before.duals_of before.fees_of)
    before.duals_of before.fees_of)
    (sum_most fixed c.sweep-moved.new.duals c.sweep-moved.new.fees
    (c.prices_are_fair.ensures fixed c.sweep-moved.new.duals c.sweep-moved.new.fees c.every_book_is_sound.ensures c.every_cost_table_is_sound.ensures c.requires.fixed after.duals_of after.fees_of)
    after.duals_of after.fees_of)
    (looks_true fixed c.loop-moved.duals c.loop-moved.fees c.sweep-moved.new.duals c.sweep-moved.new.fees all c.sweep-moved.result c.sweep-moved.ensures.looks)
    (looks_same_sum fixed c.loop-moved.duals c.loop-moved.fees c.sweep-moved.new.duals c.sweep-moved.new.fees all c.sweep-moved.result c.sweep-moved.ensures.looks)

pub loop-moved-preserved : goal.loop-moved-preserved
loop-moved-preserved c =
    let fixed = c.args.fixed.now in
    let all = AreAllSettled fixed c.sweep-moved.new.duals c.sweep-moved.new.fees in
    let more = looks_no_less fixed c.loop-moved.duals c.loop-moved.fees c.sweep-moved.new.duals c.sweep-moved.new.fees all c.sweep-moved.result c.sweep-moved.ensures.looks in
    let so_far = c.loop-moved.invariant.no_less in
    record {
      priced = c.sweep-moved.ensures.priced;
      clear = c.sweep-moved.ensures.clear;
      no_less = omega (arith, ints, so_far, more);
      done = λ e. (looks_false fixed c.loop-moved.duals c.loop-moved.fees c.sweep-moved.new.duals c.sweep-moved.new.fees all c.sweep-moved.result c.sweep-moved.ensures.looks e).2;
    }

-- each place is settled
pub returns-clause-settled : goal.returns-clause-settled
returns-clause-settled c =
    let fixed = c.args.fixed.now in
    let done = c.loop-moved.invariant.done c.loop-moved-test.false in
    record {
      duals_of = c.loop-moved.invariant.priced.duals_of;
      fees_of = c.loop-moved.invariant.priced.fees_of;
      routes = c.requires.fixed.routes;
      each_dual = λ a lt value box. (done a (omega (arith, lt))).dual lt value box;
      each_fee = λ q lt value box. (done (activities fixed.book.now + q) (omega (arith, lt))).fee q refl lt value box;
    }
