use Rattle.std.proofs.Common.{◌≡◌, ◌<◌, ◌∙◌, ◌-ℤ◌, sym, subst, arith, ℕ, List, length, w64, to_z, of_z, pos}
use Rattle.std.proofs.lemmas.Int.{ints}
use Rattle.std.specs.Prelude.{All}
use Rattle.tail_book.specs.Lookup.{aircraft}
use Rattle.branch_marks.specs.Weights.{dual}
use Rattle.restricted_master.specs.inside.Listing.{AreApart}
use Rattle.restricted_master.proofs.Chosen.{with_all}
use Rattle.restricted_master.proofs.Members.{apart_list}
use Rattle.restricted_master.proofs.PoolLeast.{small_in_box}
use Rattle.restricted_master.proofs.PoolSums.{weighed_later}
use Rattle.restricted_master.proofs.moving.move_dual.Goals as goal

-- the routes with the activity are of the pool, each once
pub shift-requires-clause-numbers : goal.shift-requires-clause-numbers
shift-requires-clause-numbers c =
    subst (λ (n : ℕ). All (λ i. i < n) c.with.result.now) (sym c.requires.weighed.weights_of.each)
    (subst (λ (xs : List ℕ). All (λ i. i < length c.args.pool.now.entries) xs) (sym c.with.ensures)
    (with_all c.args.table.now c.args.book.now c.args.pool.now c.args.lists.now c.args.duals.now c.args.weights.now c.args.values.now c.args.a c.requires.weighed c.requires.activity))

pub shift-requires-clause-apart : goal.shift-requires-clause-apart
shift-requires-clause-apart c =
    subst AreApart (sym (c.with.ensures ∙ c.requires.weighed.lists_of.by_activity c.args.a c.requires.activity))
    (apart_list c.args.pool.now (aircraft c.args.book.now) c.args.a)

-- the change is one between two numbers of the box
pub shift-requires-clause-rise : goal.shift-requires-clause-rise
shift-requires-clause-rise c =
    let small = c.weights_are_small.ensures _ _ _ _ _ _ _ c.every_cost_table_is_sound.ensures c.requires.weighed in
    let here : c.args.a < length c.args.duals.now = omega (arith, c.requires.activity, c.requires.weighed.duals_of.one_each) in
    let dual_small = small.2 c.args.a (pos 0) here in
    let to_small = small_in_box c.args.table.now c.args.book.now c.args.a c.args.to c.every_cost_table_is_sound.ensures c.requires.weighed.table_for c.requires.activity
    (record { least = omega (arith, ints, c.requires.to.least, c.ranges.to); most = omega (arith, ints, c.requires.to.most, c.ranges.to) }) in
    record { least = omega (arith, ints, dual_small, to_small, c.ranges.to); most = omega (arith, ints, dual_small, to_small, c.ranges.to) }

pub returns-clause-weighed : goal.returns-clause-weighed
returns-clause-weighed c =
    let small = c.weights_are_small.ensures _ _ _ _ _ _ _ c.every_cost_table_is_sound.ensures c.requires.weighed in
    let here : c.args.a < length c.args.duals.now = omega (arith, c.requires.activity, c.requires.weighed.duals_of.one_each) in
    let dual_small = small.2 c.args.a (pos 0) here in
    let to_small = small_in_box c.args.table.now c.args.book.now c.args.a c.args.to c.every_cost_table_is_sound.ensures c.requires.weighed.table_for c.requires.activity
    (record { least = omega (arith, ints, c.requires.to.least, c.ranges.to); most = omega (arith, ints, c.requires.to.most, c.ranges.to) }) in
    let rise : to_z w64 (of_z w64 (to_z w64 (of_z w64 c.args.to) -ℤ to_z w64 (of_z w64 (dual c.args.duals.now c.args.a))))
    ≡ to_z w64 (of_z w64 c.args.to) -ℤ dual c.args.duals.now c.args.a = omega (arith, ints, dual_small, to_small, c.ranges.to) in
    weighed_later c.least_in_is_least.ensures c.args.table.now c.args.book.now c.args.pool.now c.args.lists.now c.args.duals.now c.args.weights.now c.args.values.now c.args.a
    c.args.choices.now c.requires.weighed c.requires.routes c.requires.activity c.requires.each c.requires.chosen
    (to_z w64 (of_z w64 c.args.to)) _ c.with.result.now c.shift.new.weights c.take_all.new.values
    (record { least = omega (arith, ints, c.requires.to.least, c.ranges.to); most = omega (arith, ints, c.requires.to.most, c.ranges.to) })
    rise c.with.ensures c.shift.auto.weights c.shift.ensures c.take_all.auto.values c.take_all.ensures
