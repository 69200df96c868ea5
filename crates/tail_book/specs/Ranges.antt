-- Ranges of whole numbers. For src/lookup.rt.
use Rattle.std.specs.Prelude.{ℤ, ◌≤ℤ◌}

-- the number lies in the range, both ends included
pub record IsWithin (low high z : ℤ) : Type 0 where
  pub least : low ≤ℤ z
  pub most : z ≤ℤ high
