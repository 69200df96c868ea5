-- What a small weight is, once it is there: smallness asks nothing of a weight that is none, and of one that is there
-- that it lies within the bound on both sides of 0.
use Rattle.std.proofs.Common.{◌≡◌, ◌-ℤ◌, ℕ, ℤ, pos, Option, Some, subst}
use Rattle.tail_book.specs.Ranges.{IsWithin}
use Rattle.restricted_master.specs.inside.Choices.{IsSmallWeight}

pub small_some : (most : ℕ) (one : Option ℤ) (weight : ℤ) → one ≡ Some weight → IsSmallWeight most one → IsWithin (pos 0 -ℤ pos most) (pos most) weight
small_some most one weight is small = subst (λ (o : Option ℤ). IsSmallWeight most o) is small
