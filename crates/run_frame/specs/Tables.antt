-- The three tables of a run, and their names.
use Rattle.std.specs.Prelude.{ℕ, List}

-- the names of the timetable, the fleet and the rules
pub record NamesSeen : Type 0 where
  pub timetable : List ℕ
  pub fleet : List ℕ
  pub rules : List ℕ

-- the bytes of the timetable, the fleet and the rules
pub record TablesSeen : Type 0 where
  pub timetable : List ℕ
  pub fleet : List ℕ
  pub rules : List ℕ
