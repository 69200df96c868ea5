-- An aircraft as its record in the fleet says it.
use Rattle.std.specs.Prelude.{ℕ, List, ℤ}
use Rattle.fleet_rules.specs.declared.tail.RawCarry.{RawCarry}

-- the fields of a record: names as their bytes, ready in minutes since 1970-01-01T00:00 UTC, fixed as the cost of each activity
pub record RawTailSeen : Type 0 where
  pub name : List ℕ
  pub kind : List ℕ
  pub at : List ℕ
  pub ready : ℤ
  pub fixed : ℕ
  pub tags : List (List ℕ)
  pub avoid : List (List ℕ)
  pub carry : List RawCarry
