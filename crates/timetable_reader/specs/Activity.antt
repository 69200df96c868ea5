-- An activity as its record in the timetable says it.
use Rattle.std.specs.Prelude.{ℕ, Bool, List, Option, ℤ}

-- the fields of a record: names as their bytes, times in minutes since 1970-01-01T00:00 UTC
pub record RawActivitySeen : Type 0 where
  pub id : List ℕ
  pub flight : Bool
  pub from : List ℕ
  pub to : List ℕ
  pub start : ℤ
  pub end : ℤ
  pub types : List (List ℕ)
  pub tags : List (List ℕ)
  pub tail : Option (List ℕ)
  pub resets : List (List ℕ)
