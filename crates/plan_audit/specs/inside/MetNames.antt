-- What holds while a plan is read: there is a mark for each aircraft and activity, and it tells whether that was met.
use Rattle.std.specs.Prelude.{◌≡◌, length}
use Rattle.tail_book.specs.Lookup.{activities, aircraft}
use Rattle.tail_book.specs.Seen.{BookSeen}
use Rattle.plan_audit.specs.declared.met_names.MetNames.{MetNames}
use Rattle.plan_audit.specs.inside.Marks.{AreMarks}
use Rattle.plan_audit.specs.Met.{tails_met, activities_met}

-- there is a mark for each aircraft and each activity of the book, and those of the names met are set
pub record AreMetNamesOf (book : BookSeen) (met_names : MetNames) : Type 0 where
  pub tail_marks : AreMarks met_names.tails.items (tails_met met_names.met.items)
  pub activity_marks : AreMarks met_names.activities.items (activities_met met_names.met.items)
  pub each_aircraft : length met_names.tails.items ≡ aircraft book
  pub each_activity : length met_names.activities.items ≡ activities book
