use Rattle.std.proofs.Common.{◌≡◌, ◌<◌, ◌+ℤ◌, w64, to_z, of_z, arith, refl, get_or, length, pos}
use Rattle.std.proofs.lemmas.Int.{ints, to_z-of_z}
use Rattle.restricted_master.specs.inside.Least.{weight_at}
use Rattle.restricted_master.proofs.Chosen.{with_more, without_same}
use Rattle.restricted_master.proofs.aircraft_choices.add_with.Goals as goal

-- one route more
pub loop-q-preserved : goal.loop-q-preserved
loop-q-preserved c =
    let i = get_or c.args.numbers.now c.loop-q.q 0 in
    let known = c.requires.numbers c.loop-q.q 0 c.loop-q-test.true in
    let within : c.aircraft-k.result < length c.loop-q.choices = omega (arith, c.requires.aircraft i known, c.aircraft-k.ensures, c.loop-q.auto.choices) in
    let small = c.requires.small i (pos 0) (omega (arith, known, c.requires.weights)) in
    let dual : to_z w64 (of_z w64 c.args.dual) ≡ c.args.dual = to_z-of_z w64 c.args.dual c.ranges.dual in
    let read : to_z w64 (of_z w64 (weight_at c.args.weights.now i)) ≡ weight_at c.args.weights.now i = omega (arith, ints, small) in
    let sum : to_z w64 (of_z w64 (to_z w64 (of_z w64 (weight_at c.args.weights.now i)) +ℤ to_z w64 (of_z w64 c.args.dual))) ≡ weight_at c.args.weights.now i +ℤ to_z w64 (of_z w64 c.args.dual) =
    omega (arith, ints, small, read, dual) in
    record {
      least = with_more c.args.pool.now c.args.numbers.now c.args.weights.now (to_z w64 (of_z w64 c.args.dual)) c.loop-q.choices c.loop-q.q i c.aircraft-k.result c.lighter.result _ _ c.loop-q.invariant.least refl c.aircraft-k.ensures within sum c.lighter.ensures;
      same = without_same c.args.pool.now c.args.numbers.now c.args.weights.now (to_z w64 (of_z w64 c.args.dual)) c.loop-q.choices c.loop-q.q i c.aircraft-k.result c.args.choices.now c.lighter.result c.loop-q.invariant.same within;
    }
