-- Sweep after sweep the room up to the bound of the sum falls, until nothing moves.
use Rattle.std.proofs.Common.{◌≡◌, ◌<◌, ◌+◌, ◌≤ℤ◌, ◌+ℤ◌, ◌-ℤ◌, ℤ, pos, negsuc, arith, refl, Bool, true, false}
use Rattle.std.proofs.lemmas.Int.{ints}
use Rattle.std.proofs.lemmas.Bool.{both_ways}
use Rattle.std.specs.Prelude.{◌<ℤ◌, if◌then◌else◌}
use Rattle.tail_book.specs.CostTable.{cost_unit}
use Rattle.branch_marks.specs.Bound.{bound_of}

bound_is : (z : ℤ) → pos 0 ≤ℤ z → pos (bound_of z) ≡ z
bound_is (pos n) le = refl
bound_is (negsuc n) le = absurd (omega (arith, ints, le))

-- a sweep that moves a dual leaves less up to the bound, and one that moves none is the last
pub room_falls : (bound before after : ℤ) (moved later : Bool) → moved ≡ true → before ≤ℤ bound → after ≤ℤ bound
    → (later ≡ true → (before +ℤ pos cost_unit) ≤ℤ after) → (later ≡ false → after ≡ before)
    → bound_of (bound -ℤ after) + (if later then 1 else 0) < bound_of (bound -ℤ before) + (if moved then 1 else 0)
room_falls bound before after false later now le after_le gains stays = absurd (both_ways false refl now)
room_falls bound before after true true now le after_le gains stays =
    let one = bound_is (bound -ℤ after) (omega (arith, ints, after_le)) in
    let two = bound_is (bound -ℤ before) (omega (arith, ints, le)) in
    let gain = gains refl in
    omega (arith, ints, one, two, gain)
room_falls bound before after true false now le after_le gains stays =
    let one = bound_is (bound -ℤ after) (omega (arith, ints, after_le)) in
    let two = bound_is (bound -ℤ before) (omega (arith, ints, le)) in
    let same = stays refl in
    omega (arith, ints, one, two, same)

-- fewer are left, down to none
pub bound_falls : (x y : ℤ) → x <ℤ y → pos 0 <ℤ y → bound_of x < bound_of y
bound_falls (pos n) (pos m) less some = omega (arith, ints, less)
bound_falls (negsuc n) (pos m) less some = omega (arith, ints, some)
bound_falls x (negsuc m) less some = absurd (omega (arith, ints, some))
