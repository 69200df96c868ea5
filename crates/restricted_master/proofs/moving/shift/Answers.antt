use Rattle.std.proofs.Common.{◌≡◌, ◌<◌, ◌∙◌, ◌-ℤ◌, w64, to_z, of_z, arith, refl, ap, get_or, length, pos, Bool}
use Rattle.std.proofs.lemmas.Int.{ints}
use Rattle.restricted_master.specs.inside.Least.{weight_at}
use Rattle.restricted_master.proofs.Members.{apart_at}
use Rattle.restricted_master.proofs.Shifted.{shift_more, shifted}
use Rattle.restricted_master.proofs.moving.shift.Goals as goal

-- a route's weight falls once, from one within 2^61 by at most 2^62
pub overflow_sub-weights : goal.overflow_sub-weights
overflow_sub-weights c =
    let i = get_or c.args.numbers.now c.loop-q.q 0 in
    let known = c.requires.numbers c.loop-q.q 0 c.loop-q-test.true in
    let within : i < length c.loop-q.weights = omega (arith, known, c.loop-q.auto.weights) in
    let new = apart_at c.args.numbers.now c.loop-q.q c.requires.apart c.loop-q-test.true in
    let small = c.requires.small i (pos 0) known in
    let same : weight_at c.loop-q.weights i ≡ weight_at c.args.weights.now i =
    c.loop-q.invariant i within ∙ ap (λ (b : Bool). shifted b (weight_at c.args.weights.now i) (to_z w64 (of_z w64 c.args.rise))) new in
    let rise = c.requires.rise in
    omega (arith, ints, small, same, rise)

pub loop-q-preserved : goal.loop-q-preserved
loop-q-preserved c =
    let i = get_or c.args.numbers.now c.loop-q.q 0 in
    let known = c.requires.numbers c.loop-q.q 0 c.loop-q-test.true in
    let within : i < length c.loop-q.weights = omega (arith, known, c.loop-q.auto.weights) in
    let new = apart_at c.args.numbers.now c.loop-q.q c.requires.apart c.loop-q-test.true in
    let small = c.requires.small i (pos 0) known in
    let same : weight_at c.loop-q.weights i ≡ weight_at c.args.weights.now i =
    c.loop-q.invariant i within ∙ ap (λ (b : Bool). shifted b (weight_at c.args.weights.now i) (to_z w64 (of_z w64 c.args.rise))) new in
    let rise = c.requires.rise in
    let value : to_z w64 (of_z w64 (to_z w64 (of_z w64 (weight_at c.loop-q.weights i)) -ℤ to_z w64 (of_z w64 c.args.rise)))
    ≡ weight_at c.loop-q.weights i -ℤ to_z w64 (of_z w64 c.args.rise) = omega (arith, ints, small, same, rise) in
    shift_more c.args.weights.now c.loop-q.weights c.args.numbers.now c.loop-q.q i _ _ c.loop-q.invariant c.loop-q-test.true refl new within value
