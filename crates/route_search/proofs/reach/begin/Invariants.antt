use Rattle.std.proofs.Common.{◌≡◌, ◌<◌, ℕ, length, get_or}
use Rattle.tail_book.specs.declared.place.Place.TheVariants.{Carry}
use Rattle.branch_marks.specs.Marks.{IsUsable}
use Rattle.pricing.specs.inside.Truth.{AreTrue, first_row}
use Rattle.label_store.specs.inside.Growth.{IsAsWide}
use Rattle.route_search.specs.inside.Reach.{IsTried, GrowsFrom}
use Rattle.route_search.proofs.reach.begin.Given as goal

-- the activities at places before i were tried
abbrev pub invariant-loop-i : goal.invariant-loop-i
invariant-loop-i l = record {
  truths : AreTrue l.task.table.now l.task.book.now l.task.marks.now.facts l.task.k l.task.duals.now.values l.store;
  grows : GrowsFrom 0 l.initial.store l.store;
  wide : IsAsWide l.initial.store l.store;
  tried : (q : ℕ) → q < l.i → IsUsable l.task.book.now l.task.marks.now.facts l.task.k Carry (get_or l.first q 0)
      → IsTried l.task.table.now l.task.book.now l.task.marks.now.facts l.task.k l.task.duals.now.values l.limit l.store Carry (first_row l.task.book.now l.task.k) (get_or l.first q 0);
  row : length l.row ≡ length l.initial.row;
}
