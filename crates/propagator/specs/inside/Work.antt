-- Room for the work on one aircraft, and for the links of all.
use Rattle.std.specs.Prelude.{◌≡◌, length}
use Rattle.tail_book.specs.Seen.{BookSeen}
use Rattle.tail_book.specs.Lookup.{activities}
use Rattle.floor_rows.specs.inside.FloorRow.{IsRowOf}
use Rattle.propagator.specs.declared.work.Work.{Work}

-- there are four flags and a number for each activity, room three times for the values of a floor, and for a floor of each activity
pub record IsWorkOf (book : BookSeen) (work : Work) : Type 0 where
  pub due : length work.due.items ≡ activities book
  pub ask : length work.ask.items ≡ activities book
  pub leave : length work.leave.items ≡ activities book
  pub arrive : length work.arrive.items ≡ activities book
  pub pass : length work.pass.items ≡ activities book
  pub values : length work.values.items ≡ length book.rules.counters
  pub least : length work.least.items ≡ length book.rules.counters
  pub before : length work.before.items ≡ length book.rules.counters
  pub lowest : IsRowOf book work.lowest
