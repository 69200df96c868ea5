use Rattle.tail_book.specs.declared.place.Place.TheVariants.{After}
use Rattle.route_search.specs.inside.Completion.{IsLeastAmong}
use Rattle.route_search.proofs.completion.least_behind.Given as goal

-- it is the least of the rests that begin with one of the activities before place i, or are empty
abbrev pub invariant-loop-i : goal.invariant-loop-i
invariant-loop-i l = IsLeastAmong l.task.table.now l.task.book.now l.task.marks.now.facts l.task.k l.task.duals.now.values (After l.x) l.next l.i l.least
