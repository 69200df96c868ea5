use Rattle.std.proofs.Common.{◌≡◌, ◌-ℤ◌, ◌^◌, ℤ, Option, Some, arith, refl}
use Rattle.std.proofs.lemmas.Int.{ints, clamps}
use Rattle.std.specs.Int.{int_max}
use Rattle.restricted_master.specs.inside.Choices.{price_of}
use Rattle.restricted_master.proofs.Small.{small_some}
use Rattle.restricted_master.proofs.choice.Choice.price.Goals as goal

both : (low with without price : ℤ) (one other : Option ℤ) → one ≡ Some with → other ≡ Some without → price ≡ int_max low (with -ℤ without)
    → Some price ≡ price_of low one other
both low with without price one other e f g = rw (e, f, g) refl

-- no difference passes 2^63
pub returns-in-Some-Some : goal.returns-in-Some-Some
returns-in-Some-Some c =
    let with = small_some (2 ^ 62) c.args.self.now.with c.in-Some-Some.with c.in-Some-Some.is-0 c.requires.with in
    let without = small_some (2 ^ 61) c.args.self.now.without c.in-Some-Some.without c.in-Some-Some.is-1 c.requires.without in
    both _ _ _ _ _ _ c.in-Some-Some.is-0 c.in-Some-Some.is-1
    (omega (arith, ints, clamps, with, without, c.greater.ensures, c.greater.type_inv, c.ranges.low))
