-- What contracts see of a table of costs, and of duals. For src/cost_table.rt and src/duals.rt.
use Rattle.std.specs.Prelude.{ℕ, ℤ, List}
use Rattle.tail_book.specs.declared.rules.Band.{Band}

-- what a book's activities and connections cost: n activities, m aircraft, an entry for each aircraft and activity with
-- that of aircraft k and activity a at number k * n + a, the bands, and the most that an entry and a band cost
pub record CostTableSeen : Type 0 where
  pub n : ℕ
  pub m : ℕ
  pub fly : List ℕ
  pub bands : List Band
  pub fly_max : ℕ
  pub band_max : ℕ

-- duals: one for each activity, in thousandths of a cost unit
pub record DualsSeen : Type 0 where
  pub values : List ℤ
