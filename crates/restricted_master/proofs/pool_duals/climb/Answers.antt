use Rattle.std.proofs.Common.{◌≡◌, ◌∙◌, pos, arith, rules, to_z, of_z}
use Rattle.std.proofs.lemmas.Int.{ints}
use Rattle.std.specs.Int.{w128}
use Rattle.tail_book.specs.Lookup.{activities}
use Rattle.branch_marks.specs.Pool.{sum_in}
use Rattle.restricted_master.specs.inside.Least.{greatest_sum}
use Rattle.restricted_master.proofs.Climbing.{room_falls, some_is, sweeps_false, sweeps_no_less, sweeps_same_sum, sweeps_true}
use Rattle.restricted_master.proofs.OwnLeast.{sum_is}
use Rattle.restricted_master.proofs.pool_duals.climb.Goals as goal

-- each sweep but the last leaves less up to the bound
pub loop-moved-smaller : goal.loop-moved-smaller
loop-moved-smaller c =
    room_falls (pos (greatest_sum c.args.book.now)) (sum_in c.args.table.now c.args.book.now c.loop-moved.duals c.args.pool.now.entries)
    (sum_in c.args.table.now c.args.book.now c.round-moved.new.duals c.args.pool.now.entries) c.loop-moved.moved c.round-moved.result c.loop-moved-test.true
    (c.sums_are_bounded.ensures _ _ _ _ _ _ _ c.every_cost_table_is_sound.ensures c.loop-moved.invariant.weighed)
    (c.sums_are_bounded.ensures _ _ _ _ _ _ _ c.every_cost_table_is_sound.ensures c.round-moved.ensures.weighed)
    (sweeps_true c.args.table.now c.args.book.now c.args.pool.now.entries (activities c.args.book.now) c.loop-moved.duals c.round-moved.new.duals c.round-moved.result c.round-moved.ensures.swept) (sweeps_same_sum c.args.table.now c.args.book.now c.args.pool.now.entries (activities c.args.book.now) c.loop-moved.duals c.round-moved.new.duals c.round-moved.result c.round-moved.ensures.swept)

pub loop-moved-preserved : goal.loop-moved-preserved
loop-moved-preserved c =
    let more = sweeps_no_less c.args.table.now c.args.book.now c.args.pool.now.entries (activities c.args.book.now) c.loop-moved.duals c.round-moved.new.duals c.round-moved.result c.round-moved.ensures.swept in
    let so_far = c.loop-moved.invariant.no_less in
    record {
      each = c.round-moved.auto.choices ∙ c.loop-moved.invariant.each;
      weighed = c.round-moved.ensures.weighed;
      work = c.round-moved.ensures.work;
      room = c.round-moved.ensures.room;
      no_less = omega (arith, ints, so_far, more);
      done = λ e. (sweeps_false c.args.table.now c.args.book.now c.args.pool.now.entries (activities c.args.book.now) c.loop-moved.duals c.round-moved.new.duals c.round-moved.result c.round-moved.ensures.swept e).1;
    }

-- the sum fits
pub lagrangian-requires-clause-duals : goal.lagrangian-requires-clause-duals
lagrangian-requires-clause-duals c = omega (arith, c.loop-moved.invariant.weighed.duals_of.one_each, c.every_book_is_sound.ensures.few_activities)

pub lagrangian-requires-clause-values : goal.lagrangian-requires-clause-values
lagrangian-requires-clause-values c = omega (arith, c.loop-moved.invariant.weighed.values_of.each, c.every_book_is_sound.ensures.few_tails)

pub returns-clause-settled : goal.returns-clause-settled
returns-clause-settled c = record {
  in_box = c.loop-moved.invariant.weighed.duals_of;
  routes = λ k lt. some_is _ _ (c.loop-moved.invariant.weighed.values_of.least k lt);
  settled = c.loop-moved.invariant.done c.loop-moved-test.false;
}

pub returns-clause-sum : goal.returns-clause-sum
returns-clause-sum c =
    let read : to_z w128 (of_z w128 c.lagrangian.result) ≡ c.lagrangian.result = search rules in
    read ∙ c.lagrangian.ensures
    ∙ sum_is c.args.table.now c.args.book.now c.args.pool.now c.loop-moved.duals c.loop-moved.values c.loop-moved.invariant.weighed.values_of
