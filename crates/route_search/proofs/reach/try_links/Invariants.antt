use Rattle.std.proofs.Common.{◌≡◌, ◌<◌, ℕ, suc, length, get_or}
use Rattle.pricing.specs.inside.Truth.{AreTrue}
use Rattle.label_store.specs.inside.Growth.{IsAsWide}
use Rattle.route_search.specs.inside.Reach.{AreTried, GrowsFrom}
use Rattle.route_search.proofs.reach.try_links.Given as goal

-- the activities at places before i were tried
abbrev pub invariant-loop-i : goal.invariant-loop-i
invariant-loop-i l = record {
  truths : AreTrue l.task.table.now l.task.book.now l.task.marks.now.facts l.task.k l.task.duals.now.values l.store;
  grows : GrowsFrom (suc l.x) l.initial.store l.store;
  wide : IsAsWide l.initial.store l.store;
  tried : (q : ℕ) → q < l.i → AreTried l.task.table.now l.task.book.now l.task.marks.now.facts l.task.k l.task.duals.now.values l.limit l.initial.store l.x l.store (get_or l.next q 0);
  row : length l.row ≡ length l.initial.row;
}
