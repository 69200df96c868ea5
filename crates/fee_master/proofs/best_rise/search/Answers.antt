use Rattle.std.proofs.Common.{◌≡◌, ◌+ℤ◌, ◌-ℤ◌, pos, arith, rules, refl, w64, to_z, of_z}
use Rattle.std.proofs.lemmas.Int.{ints, to_z-of_z}
use Rattle.std.specs.Int.{w128}
use Rattle.tail_book.specs.Lookup.{aircraft}
use Rattle.tail_book.specs.Ranges.{IsWithin}
use Rattle.fee_master.proofs.Climbing.{bound_falls}
use Rattle.fee_master.proofs.Tangents.{fewer, searched_more, searched_whole}
use Rattle.fee_master.proofs.best_rise.search.Goals as goal

-- all rises are left, and then 0 is tried
pub loop-range-init : goal.loop-range-init
loop-range-init c =
    let fixed = c.args.fixed.now in
    let low : to_z w64 (of_z w64 c.args.low) ≡ c.args.low = to_z-of_z w64 c.args.low c.ranges.low in
    let high : to_z w64 (of_z w64 c.args.high) ≡ c.args.high = to_z-of_z w64 c.args.high c.ranges.high in
    let here = c.requires.here in
    let inside : IsWithin (to_z w64 (of_z w64 c.args.low)) (to_z w64 (of_z w64 c.args.high)) (pos 0) =
    record { least = omega (arith, ints, here, low); most = omega (arith, ints, here, high) } in
    let part : to_z w128 (of_z w128 c.args.first.part) ≡ c.args.first.part = search rules in
    let on = c.requires.first.on in
    searched_more fixed.pool.now c.args.weights.now c.args.times.now (aircraft fixed.book.now) c.args.most (to_z w64 (of_z w64 c.args.low)) (to_z w64 (of_z w64 c.args.high))
    _ (pos 0) c.args.first c.narrowed-range.result
    (searched_whole fixed.pool.now c.args.weights.now c.args.times.now (aircraft fixed.book.now) c.args.most (to_z w64 (of_z w64 c.args.low)) (to_z w64 (of_z w64 c.args.high))
    _ refl refl inside (omega (arith, ints, part, on)))
    inside c.requires.first c.narrowed-range.ensures

pub narrowed-range-requires-in-loop-range : goal.narrowed-range-requires-in-loop-range
narrowed-range-requires-in-loop-range c =
    let from = c.loop-range.invariant.from in
    let to = c.loop-range.invariant.to in
    let next = c.next_rise-rise.ensures in
    record {
      least = omega (arith, ints, from, next, c.requires.low, c.ranges.low, c.next_rise-rise.type_inv);
      most = omega (arith, ints, to, next, c.requires.high, c.ranges.high, c.next_rise-rise.type_inv);
    }

-- each rise that is tried is one of those that are left
pub loop-range-smaller : goal.loop-range-smaller
loop-range-smaller c =
    let fixed = c.args.fixed.now in
    let range = c.loop-range.range in
    let new = c.narrowed-range-in-loop-range.result in
    let next = c.next_rise-rise.ensures in
    let less = fewer fixed.pool.now c.args.weights.now c.args.times.now (aircraft fixed.book.now) c.args.most (to_z w64 (of_z w64 c.args.low)) (to_z w64 (of_z w64 c.args.high))
    range (to_z w64 (of_z w64 c.next_rise-rise.result)) c.tangent_at-tangent.result new c.loop-range.invariant
    (record { least = omega (arith, ints, next, c.next_rise-rise.type_inv); most = omega (arith, ints, next, c.next_rise-rise.type_inv) })
    c.tangent_at-tangent.ensures.tangent c.narrowed-range-in-loop-range.ensures in
    bound_falls ((new.to -ℤ new.from) +ℤ pos 1) ((range.to -ℤ range.from) +ℤ pos 1) (omega (arith, ints, less)) (omega (arith, ints, next))

pub loop-range-preserved : goal.loop-range-preserved
loop-range-preserved c =
    let fixed = c.args.fixed.now in
    let next = c.next_rise-rise.ensures in
    searched_more fixed.pool.now c.args.weights.now c.args.times.now (aircraft fixed.book.now) c.args.most (to_z w64 (of_z w64 c.args.low)) (to_z w64 (of_z w64 c.args.high))
    c.loop-range.range (to_z w64 (of_z w64 c.next_rise-rise.result)) c.tangent_at-tangent.result c.narrowed-range-in-loop-range.result c.loop-range.invariant
    (record { least = omega (arith, ints, next, c.next_rise-rise.type_inv); most = omega (arith, ints, next, c.next_rise-rise.type_inv) })
    c.tangent_at-tangent.ensures.tangent c.narrowed-range-in-loop-range.ensures
