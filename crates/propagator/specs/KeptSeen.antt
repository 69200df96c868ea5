-- What contracts see of a propagator: the floors that it keeps and of how many facts they are, with its tables and
-- room. For src/kept_rows.rt.
use Rattle.std.specs.Prelude.{ℕ, List, Option}
use Rattle.maint_counters.specs.declared.step_table.StepTable.{StepTable}
use Rattle.propagator.specs.declared.work.Work.{Work}
use Rattle.floor_rows.specs.inside.FloorRow.{FloorRowSeen}

-- the steps of the book, the floors of each aircraft, room for the work on one aircraft, and how many facts were seen, if
-- anything is kept
pub record PropagatorSeen : Type 0 where
  pub steps : StepTable
  pub rows : List FloorRowSeen
  pub work : Work
  pub seen : Option ℕ
