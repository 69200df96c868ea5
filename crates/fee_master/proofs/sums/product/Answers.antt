use Rattle.std.proofs.Common.{◌≡◌, ◌<◌, ◌*ℤ◌, ◌^◌, rules, w64, to_z, of_z, pos, arith, ap₂, ℤ}
use Rattle.std.proofs.lemmas.Int.{ints}
use Rattle.std.specs.Int.{w128}
use Rattle.fee_master.proofs.Products.{within_times}
use Rattle.fee_master.proofs.sums.product.Goals as goal

-- fewer than 2^64 times at most 2^45
pub overflow_mul-result : goal.overflow_mul-result
overflow_mul-result c =
    let low = c.requires.least in let high = c.requires.most in
    let few : c.args.times < 2 ^ 64 = search rules in
    let count : to_z w128 c.args.times ≡ pos c.args.times = omega (arith, ints, few) in
    let price : to_z w128 (of_z w128 (to_z w64 (of_z w64 c.args.price))) ≡ c.args.price = omega (arith, ints, low, high) in
    let same : to_z w128 c.args.times *ℤ to_z w128 (of_z w128 (to_z w64 (of_z w64 c.args.price))) ≡ pos c.args.times *ℤ c.args.price = ap₂ (λ (x y : ℤ). x *ℤ y) count price in
    let within = within_times c.args.times 35184372088832 c.args.price c.requires in
    let from = within.least in let to = within.most in
    omega (arith, ints, same, from, to, few)

pub returns-clause-value : goal.returns-clause-value
returns-clause-value c =
    let low = c.requires.least in let high = c.requires.most in
    let few : c.args.times < 2 ^ 64 = search rules in
    let count : to_z w128 c.args.times ≡ pos c.args.times = omega (arith, ints, few) in
    let price : to_z w128 (of_z w128 (to_z w64 (of_z w64 c.args.price))) ≡ c.args.price = omega (arith, ints, low, high) in
    let same : to_z w128 c.args.times *ℤ to_z w128 (of_z w128 (to_z w64 (of_z w64 c.args.price))) ≡ pos c.args.times *ℤ c.args.price = ap₂ (λ (x y : ℤ). x *ℤ y) count price in
    let within = within_times c.args.times 35184372088832 c.args.price c.requires in
    let from = within.least in let to = within.most in
    omega (arith, ints, same, from, to, few)

pub returns-clause-range : goal.returns-clause-range
returns-clause-range c =
    let few : c.args.times < 2 ^ 64 = search rules in
    let value = returns-clause-value c in
    let within = within_times c.args.times 35184372088832 c.args.price c.requires in
    let from = within.least in let to = within.most in
    record { least = omega (arith, ints, value, from, few); most = omega (arith, ints, value, to, few) }
