-- What contracts see of an ascent: the best duals so far, and their sum where one is known. For src/ascent.rt.
use Rattle.std.specs.Prelude.{ℤ, List, Option}

-- the best duals so far, and their Lagrangian sum in thousandths of a cost unit, where it is known
pub record AscentSeen : Type 0 where
  pub best : List ℤ
  pub sum : Option ℤ
