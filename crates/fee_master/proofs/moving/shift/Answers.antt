use Rattle.std.proofs.Common.{◌≡◌, ◌<◌, ◌≤◌, ◌+◌, ◌*ℤ◌, ◌∙◌, w64, to_z, of_z, pos, arith, ap, ap₂, sym, inl, inr, ℕ, ℤ, List, length, get_or, set}
use Rattle.std.proofs.lemmas.Bool.{cases_eq}
use Rattle.std.proofs.lemmas.Int.{ints, to_z-of_z}
use Rattle.std.proofs.lemmas.List.{get_or-set_same, get_or-set_other}
use Rattle.restricted_master.specs.inside.Least.{weight_at}
use Rattle.fee_master.specs.inside.Lines.{line_at}
use Rattle.fee_master.proofs.Products.{within_times}
use Rattle.fee_master.proofs.moving.shift.Goals as goal

risen_more : (initial weights : List ℤ) (times : List ℕ) (rise v : ℤ) (i : ℕ) → i < length weights
    → ((j : ℕ) → j < i → weight_at weights j ≡ line_at initial times rise j) → v ≡ line_at initial times rise i
    → (j : ℕ) → j < i + 1 → weight_at (set weights i v) j ≡ line_at initial times rise j
risen_more initial weights times rise v i below before here j lt = elim (cases_eq j i) [
  | inl e ↦ ap (weight_at (set weights i v)) e ∙ get_or-set_same weights i v (pos 0) below ∙ here ∙ ap (line_at initial times rise) (sym e)
  | inr ne ↦ get_or-set_other weights i j v (pos 0) ne ∙ before j (omega (arith, lt, ne))
]

same_more : (initial weights : List ℤ) (v : ℤ) (i : ℕ) → ((j : ℕ) → i ≤ j → weight_at weights j ≡ weight_at initial j)
    → (j : ℕ) → i + 1 ≤ j → weight_at (set weights i v) j ≡ weight_at initial j
same_more initial weights v i before j le = get_or-set_other weights i j v (pos 0) (omega (arith, le)) ∙ before j (omega (arith, le))

-- a weight within 2^62 rises at most 4,000 times by at most 2^45
pub overflow_add-weights : goal.overflow_add-weights
overflow_add-weights c =
    let i = c.loop-i.i in
    let t = get_or c.args.times.now i 0 in
    let below : i < length c.args.weights.now = omega (arith, c.loop-i-test.true, c.loop-i.auto.weights) in
    let few : t ≤ 4000 = c.requires.fair.few i 0 (omega (arith, below, c.requires.each)) in
    let count : to_z w64 t ≡ pos t = omega (arith, ints, few) in
    let rise : to_z w64 (of_z w64 c.args.rise) ≡ c.args.rise = to_z-of_z w64 c.args.rise c.ranges.rise in
    let product : to_z w64 t *ℤ to_z w64 (of_z w64 c.args.rise) ≡ pos t *ℤ c.args.rise = ap₂ (λ (x y : ℤ). x *ℤ y) count rise in
    let within = within_times t 35184372088832 c.args.rise c.requires.rise in
    let low = within.least in let high = within.most in
    let weight = c.requires.fair.low i (pos 0) below in
    let from = weight.least in let to = weight.most in
    let same = c.loop-i.invariant.same i (omega arith) in
    omega (arith, ints, product, low, high, from, to, few, same)

pub loop-i-preserved : goal.loop-i-preserved
loop-i-preserved c =
    let i = c.loop-i.i in
    let t = get_or c.args.times.now i 0 in
    let below : i < length c.args.weights.now = omega (arith, c.loop-i-test.true, c.loop-i.auto.weights) in
    let few : t ≤ 4000 = c.requires.fair.few i 0 (omega (arith, below, c.requires.each)) in
    let count : to_z w64 t ≡ pos t = omega (arith, ints, few) in
    let rise : to_z w64 (of_z w64 c.args.rise) ≡ c.args.rise = to_z-of_z w64 c.args.rise c.ranges.rise in
    let product : to_z w64 t *ℤ to_z w64 (of_z w64 c.args.rise) ≡ pos t *ℤ c.args.rise = ap₂ (λ (x y : ℤ). x *ℤ y) count rise in
    let here : pos t *ℤ to_z w64 (of_z w64 c.args.rise) ≡ pos t *ℤ c.args.rise = ap (λ (y : ℤ). pos t *ℤ y) rise in
    let within = within_times t 35184372088832 c.args.rise c.requires.rise in
    let low = within.least in let high = within.most in
    let weight = c.requires.fair.low i (pos 0) below in
    let from = weight.least in let to = weight.most in
    let same = c.loop-i.invariant.same i (omega arith) in
    record {
      risen = risen_more c.args.weights.now c.loop-i.weights c.args.times.now (to_z w64 (of_z w64 c.args.rise)) _ i (omega (arith, below, c.loop-i.auto.weights)) c.loop-i.invariant.risen
          (omega (arith, ints, product, here, low, high, from, to, few, same));
      same = same_more c.args.weights.now c.loop-i.weights _ i c.loop-i.invariant.same;
    }
