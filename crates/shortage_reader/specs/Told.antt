-- What a file tells of a shortage. For src/told.rt.
use Rattle.std.specs.Prelude.{ℕ, List}

-- the line that says what is wanting, the asked and the brought activities by number, and the line that says how many of the
-- asked ones the aircraft can fly
pub record ToldSeen : Type 0 where
  pub because : List ℕ
  pub asked : List ℕ
  pub brought : List ℕ
  pub at_most : List ℕ
