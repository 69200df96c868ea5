use Rattle.std.proofs.Common.{◌≡◌, ◌≤◌, ◌*ℤ◌, w64, to_z, of_z, pos, arith, ap₂, ℤ, get_or}
use Rattle.std.proofs.lemmas.Int.{ints, to_z-of_z}
use Rattle.fee_master.proofs.Products.{within_times}
use Rattle.fee_master.proofs.lines.touch_at.Goals as goal

-- a weight within 2^62, and at most 4,000 times a rise within 2^45
pub overflow_add-result : goal.overflow_add-result
overflow_add-result c =
    let t = get_or c.args.times.now c.args.i 0 in
    let few : t ≤ 4000 = c.requires.fair.few c.args.i 0 c.requires.time in
    let count : to_z w64 t ≡ pos t = omega (arith, ints, few) in
    let rise : to_z w64 (of_z w64 c.args.rise) ≡ c.args.rise = to_z-of_z w64 c.args.rise c.ranges.rise in
    let product : to_z w64 t *ℤ to_z w64 (of_z w64 c.args.rise) ≡ pos t *ℤ c.args.rise = ap₂ (λ (x y : ℤ). x *ℤ y) count rise in
    let within = within_times t 35184372088832 c.args.rise c.requires.rise in
    let low = within.least in let high = within.most in
    let weight = c.requires.fair.low c.args.i (pos 0) c.requires.weight in
    let from = weight.least in let to = weight.most in
    omega (arith, ints, product, low, high, from, to, few)

pub returns-clause-value : goal.returns-clause-value
returns-clause-value c =
    let t = get_or c.args.times.now c.args.i 0 in
    let few : t ≤ 4000 = c.requires.fair.few c.args.i 0 c.requires.time in
    let count : to_z w64 t ≡ pos t = omega (arith, ints, few) in
    let rise : to_z w64 (of_z w64 c.args.rise) ≡ c.args.rise = to_z-of_z w64 c.args.rise c.ranges.rise in
    let product : to_z w64 t *ℤ to_z w64 (of_z w64 c.args.rise) ≡ pos t *ℤ c.args.rise = ap₂ (λ (x y : ℤ). x *ℤ y) count rise in
    let within = within_times t 35184372088832 c.args.rise c.requires.rise in
    let low = within.least in let high = within.most in
    let weight = c.requires.fair.low c.args.i (pos 0) c.requires.weight in
    let from = weight.least in let to = weight.most in
    omega (arith, ints, product, low, high, from, to, few)
