use Rattle.std.proofs.Common.{◌<◌, arith}
use Rattle.tail_book.specs.Lookup.{aircraft}
use Rattle.restricted_master.specs.inside.Least.{AreWeights}
use Rattle.restricted_master.proofs.Chosen.{own_all}
use Rattle.restricted_master.proofs.OwnLeast.{own_least, own_some}
use Rattle.restricted_master.proofs.leaping.weigh_all.Goals as goal

-- each aircraft has a route
pub value-requires-clause-some : goal.value-requires-clause-some
value-requires-clause-some c = λ k lt.
    let of_book : k < aircraft c.args.book.now = omega (arith, lt, c.requires.each_value) in
    own_some c.args.pool.now _ _ c.args.lists.now k c.requires.lists of_book (c.requires.routes k of_book)

-- and the numbers in the lists are of the pool
pub value-requires-clause-numbers : goal.value-requires-clause-numbers
value-requires-clause-numbers c = λ k lt p d below.
    let of_book : k < aircraft c.args.book.now = omega (arith, lt, c.requires.each_value) in
    let within = own_all c.args.pool.now _ _ c.args.lists.now k c.requires.lists of_book p d below in
    omega (arith, within, c.weigh.ensures.each)

-- so the least in its list is its value
pub returns-clause-values : goal.returns-clause-values
returns-clause-values c =
    let weights : AreWeights c.args.table.now c.args.book.now c.args.pool.now c.args.duals.now c.weigh.new.weights =
    record { each = c.weigh.ensures.each; weighs = c.weigh.ensures.weighs } in
    record {
      each = omega (arith, c.value.auto.values, c.requires.each_value);
      least = λ k lt. own_least c.args.pool.now _ _ c.args.lists.now k c.requires.lists lt c.least_in_is_least.ensures c.args.table.now c.args.book.now
          c.args.duals.now c.weigh.new.weights _ weights (c.value.ensures k (omega (arith, lt, c.value.auto.values, c.requires.each_value)));
    }
