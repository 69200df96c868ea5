use Rattle.std.proofs.Common.{◌≡◌, ◌<◌, ℕ, suc, length, get_or}
use Rattle.tail_book.specs.declared.place.Place.TheVariants.{After}
use Rattle.label_store.specs.Buckets.{row_at}
use Rattle.label_store.specs.Store.{bucket_of}
use Rattle.pricing.specs.inside.Truth.{AreTrue}
use Rattle.label_store.specs.inside.Growth.{IsAsWide}
use Rattle.route_search.specs.inside.Reach.{IsTried, GrowsFrom}
use Rattle.route_search.proofs.reach.try_bucket.Given as goal

-- the rows before place i were tried
abbrev pub invariant-loop-i : goal.invariant-loop-i
invariant-loop-i l = record {
  truths : AreTrue l.task.table.now l.task.book.now l.task.marks.now.facts l.task.k l.task.duals.now.values l.store;
  grows : GrowsFrom (suc l.x) l.initial.store l.store;
  wide : IsAsWide l.initial.store l.store;
  tried : (q : ℕ) → q < l.i → IsTried l.task.table.now l.task.book.now l.task.marks.now.facts l.task.k l.task.duals.now.values l.limit l.store (After l.x)
      (row_at l.initial.store.rows (get_or (bucket_of l.initial.store l.x) q 0)) l.b;
  row : length l.row ≡ length l.initial.row;
}
