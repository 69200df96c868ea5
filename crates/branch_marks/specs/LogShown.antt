-- What contracts see of a log: nothing of how it keeps events, but which lists of them it tells, and how it has failed.
-- For src/tree_log.rt.
use Rattle.std.specs.Prelude.{ℕ, Bool, List}
use Rattle.branch_marks.specs.declared.event.Event.{Event}

-- which lists of events the log tells; between which list and which event after it the log is torn; whether nothing is told
-- of it any more; and how many of its writes failed
pub record LogShown : Type 1 where
  pub tells : List Event → Type 0
  pub torn : List Event → Event → Type 0
  pub ceased : Bool
  pub faults : ℕ
