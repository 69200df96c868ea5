use Rattle.std.proofs.Common.{◌≡◌, ℕ, ℤ, arith, length, subst, w64, to_z, of_z}
use Rattle.std.proofs.lemmas.Int.{to_z-of_z}
use Rattle.fee_master.specs.inside.Lines.{IsLowest}
use Rattle.fee_master.proofs.Tangents.{lowest_more}
use Rattle.fee_master.proofs.lines.lowest.Goals as goal

-- one route more
pub loop-q-preserved : goal.loop-q-preserved
loop-q-preserved c =
    let h = c.loop-q.invariant in
    lowest_more c.args.numbers.now c.loop-q.q c.args.weights.now c.args.times.now _ c.loop-q.touch c.touch_at.result c.lower-touch.result h
    c.touch_at.ensures.value c.touch_at.ensures.times c.lower-touch.ensures.first c.lower-touch.ensures.second c.lower-touch.ensures.either

-- and then all of them
pub returns : goal.returns
returns c =
    let end = c.loop-q.auto.q-end (omega (arith, c.requires.some)) in
    let all : c.loop-q.q ≡ length c.args.numbers.now = omega (arith, c.loop-q-test.false, end) in
    subst (λ (rise : ℤ). IsLowest c.args.numbers.now (length c.args.numbers.now) c.args.weights.now c.args.times.now rise c.loop-q.touch) (to_z-of_z w64 c.args.rise c.ranges.rise)
    (subst (λ (n : ℕ). IsLowest c.args.numbers.now n c.args.weights.now c.args.times.now (to_z w64 (of_z w64 c.args.rise)) c.loop-q.touch) all c.loop-q.invariant)
