use Rattle.std.proofs.Common.{◌≡◌, ◌*ℤ◌, ◌∙◌, ℤ, pos, ap, arith, sym, w64, to_z, of_z}
use Rattle.std.proofs.lemmas.Int.{ints, to_z-of_z}
use Rattle.tail_book.specs.Lookup.{aircraft}
use Rattle.fee_master.proofs.Tangents.{tangent_of}
use Rattle.fee_master.proofs.lines.tangent_at.Goals as goal

-- less what the rise may come to
pub returns-clause-tangent : goal.returns-clause-tangent
returns-clause-tangent c =
    let rise : to_z w64 (of_z w64 c.args.rise) ≡ c.args.rise = to_z-of_z w64 c.args.rise c.ranges.rise in
    let product : c.product.result ≡ pos c.args.most *ℤ c.args.rise = c.product.ensures.value ∙ ap (λ (z : ℤ). pos c.args.most *ℤ z) rise in
    let range = c.touch_all-touching.ensures.range in
    let one = c.product.ensures.range in
    tangent_of c.args.fixed.now.pool.now c.args.weights.now c.args.times.now (aircraft c.args.fixed.now.book.now) c.args.most c.args.rise c.touch_all-touching.result.sum _
    (rw (sym rise) c.touch_all-touching.ensures.touching) (omega (arith, ints, range, one, product))
