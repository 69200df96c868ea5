use Rattle.std.proofs.Common.{◌≡◌, ◌∙◌, ℤ, w64, to_z, of_z, arith, ap}
use Rattle.std.proofs.lemmas.Int.{ints, to_z-of_z}
use Rattle.restricted_master.specs.inside.Choices.{part_at}
use Rattle.restricted_master.proofs.moving.better_dual.Goals as goal

-- no dual of the box does better than the best
pub returns-then-part_at : goal.returns-then-part_at
returns-then-part_at c = λ other within.
    let dual = c.part_at-2.ensures.value ∙ ap (λ (z : ℤ). part_at z c.args.choices.now) (to_z-of_z w64 c.args.dual c.ranges.dual) in
    let best : to_z w64 (of_z w64 c.best_dual-best.result) ≡ c.best_dual-best.result = omega (arith, ints, c.best_dual-best.type_inv) in
    let best_part = c.part_at.ensures.value ∙ ap (λ (z : ℤ). part_at z c.args.choices.now) best in
    let end = c.box_end-end.ensures in
    let fits = c.requires.ends in
    let one = c.part_at.ensures.range in
    let two = c.part_at-2.ensures.range in
    let most = c.best_dual-best.ensures.best other
    (record { least = omega (arith, ints, end, fits, within.least); most = omega (arith, ints, end, fits, within.most) }) in
    omega (arith, ints, c.if-part_at.true, one, two, most, dual, best_part)

pub returns-else-part_at : goal.returns-else-part_at
returns-else-part_at c =
    let dual = c.part_at-2.ensures.value ∙ ap (λ (z : ℤ). part_at z c.args.choices.now) (to_z-of_z w64 c.args.dual c.ranges.dual) in
    let best : to_z w64 (of_z w64 c.best_dual-best.result) ≡ c.best_dual-best.result = omega (arith, ints, c.best_dual-best.type_inv) in
    let end = c.box_end-end.ensures in
    let fits = c.requires.ends in
    let one = c.part_at.ensures.range in
    let two = c.part_at-2.ensures.range in
    let within = c.best_dual-best.ensures.within in (
      record { least = omega (arith, ints, best, end, fits, within); most = omega (arith, ints, best, end, fits, within) },
      omega (arith, ints, c.if-part_at.false, one, two, dual, c.part_at.ensures.value),
    )
