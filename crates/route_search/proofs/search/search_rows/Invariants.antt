use Rattle.std.proofs.Common.{◌≡◌, length}
use Rattle.pricing.specs.inside.WeightRange.{IsBroad}
use Rattle.pricing.specs.inside.Truth.{AreTrue}
use Rattle.route_search.specs.inside.Ends.{AreEnds}
use Rattle.label_store.specs.inside.Growth.{IsAsWide}
use Rattle.route_search.specs.inside.Reach.{AreDone}
use Rattle.route_search.proofs.search.search_rows.Given as goal

-- it goes on from each row of the buckets before x, and the ends there are among the ends
abbrev pub invariant-loop-x : goal.invariant-loop-x
invariant-loop-x l = record {
  truths : AreTrue l.task.table.now l.task.book.now l.task.marks.now.facts l.task.k l.task.duals.now.values l.store;
  done : AreDone l.task.table.now l.task.book.now l.task.marks.now.facts l.task.k l.task.duals.now.values l.ends.limit l.store l.x;
  ends : AreEnds l.task.book.now l.task.marks.now.facts l.task.k l.store l.fn.cut l.x l.ends;
  broad : IsBroad l.ends.limit;
  wide : IsAsWide l.fn.store l.store;
  row : length l.row ≡ length l.fn.row;
}
