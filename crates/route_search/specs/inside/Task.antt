-- What a search is over: a book with its tables, marks and duals, and one of its aircraft.
use Rattle.std.specs.Prelude.{◌≡◌, ℕ, ℤ, pos, ◌*◌, ◌^◌, ◌+ℤ◌, ◌-ℤ◌, ◌≤ℤ◌, ◌<◌, List, length, slice_index_or}
use Rattle.tail_book.specs.Seen.{BookSeen}
use Rattle.tail_book.specs.TableSeen.{CostTableSeen}
use Rattle.tail_book.specs.Lookup.{activities, aircraft}
use Rattle.tail_book.specs.CostTable.{IsTableFor, cost_unit, activity_cost_in}
use Rattle.maint_counters.specs.inside.StepTable.{IsStepTableOf}
use Rattle.connection_net.specs.Net.{net_of}
use Rattle.branch_marks.specs.inside.MarkTables.{AreMarksOf}
use Rattle.branch_marks.specs.Settled.{AreDuals}
use Rattle.branch_marks.specs.Weights.{dual}
use Rattle.route_search.specs.declared.task.Task.{Task}

-- what b costs aircraft k less its dual, in thousandths of a cost unit: so small that a connection may be added
pub record IsAdded (table : CostTableSeen) (k : ℕ) (duals : List ℤ) (b : ℕ) (added : ℤ) : Type 0 where
  pub value : added ≡ pos (cost_unit * activity_cost_in table k b) -ℤ dual duals b
  pub least : (pos 0 -ℤ pos (2 ^ 61)) ≤ℤ added
  pub most : (added +ℤ pos (cost_unit * table.band_max)) ≤ℤ pos (2 ^ 62)

-- the list has it for each activity
pub record AreAdded (table : CostTableSeen) (book : BookSeen) (k : ℕ) (duals added : List ℤ) : Type 0 where
  pub one_each : length added ≡ activities book
  pub each : (b : ℕ) → b < activities book → IsAdded table k duals b (slice_index_or added b (pos 0))

-- tables, marks and duals are of the book, and so is the aircraft
pub record IsTask (task : Task) : Type 0 where
  pub table : IsTableFor task.book.now task.table.now
  pub net : task.net.now ≡ net_of task.book.now
  pub steps : IsStepTableOf task.book.now task.steps.now
  pub marks : AreMarksOf task.book.now task.marks.now
  pub duals : AreDuals task.table.now task.book.now task.duals.now.values
  pub added : AreAdded task.table.now task.book.now task.k task.duals.now.values task.added.now
  pub aircraft : task.k < aircraft task.book.now
