use Rattle.std.proofs.Common.{◌≡◌, ◌-ℤ◌, ◌^◌, ℤ, Option, Some, arith, refl}
use Rattle.std.proofs.lemmas.Int.{ints, clamps}
use Rattle.std.specs.Int.{int_min}
use Rattle.restricted_master.specs.inside.Choices.{taken_at}
use Rattle.restricted_master.proofs.Small.{small_some}
use Rattle.restricted_master.proofs.choice.Choice.taken_at.Goals as goal

both : (dual with without weight : ℤ) (one other : Option ℤ) → one ≡ Some with → other ≡ Some without → weight ≡ int_min without (with -ℤ dual)
    → weight ≡ taken_at dual one other
both dual with without weight one other e f g = rw (e, f, g) refl

-- no difference passes 2^63
pub returns-in-Some-Some-clause-value : goal.returns-in-Some-Some-clause-value
returns-in-Some-Some-clause-value c =
    let with = small_some (2 ^ 62) c.args.self.now.with c.in-Some-Some.with c.in-Some-Some.is-0 c.requires.choice.with in
    let without = small_some (2 ^ 61) c.args.self.now.without c.in-Some-Some.without c.in-Some-Some.is-1 c.requires.choice.without in
    both _ _ _ _ _ _ c.in-Some-Some.is-0 c.in-Some-Some.is-1
    (omega (arith, ints, clamps, with, without, c.lesser.ensures, c.lesser.type_inv, c.ranges.dual))
