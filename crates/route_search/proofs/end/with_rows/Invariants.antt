use Rattle.std.proofs.Common.{◌<◌, ℕ, ℤ, get_or}
use Rattle.std.specs.Prelude.{IfSome, ◌≤ℤ◌}
use Rattle.label_store.specs.Buckets.{row_at}
use Rattle.label_store.specs.Store.{bucket_of}
use Rattle.pricing.specs.Rows.{weight_of}
use Rattle.pricing.specs.inside.Ends.{IsEnd, IsAtMost}
use Rattle.pricing.specs.inside.WeightRange.{IsBroad}
use Rattle.route_search.specs.inside.Ends.{IsEndLimit, AreNoHeavier}
use Rattle.route_search.proofs.end.with_rows.Given as goal

-- they are no heavier than before, nor than the rows at places before i that are within the limit
abbrev pub invariant-loop-i : goal.invariant-loop-i
invariant-loop-i l = record {
  one : IfSome l.all.best (IsEnd l.task.book.now l.task.marks.now.facts l.task.k l.store);
  here : (q : ℕ) → q < l.i → weight_of (row_at l.store.rows (get_or (bucket_of l.store l.x) q 0)) ≤ℤ l.all.limit
      → IsAtMost l.all.best (weight_of (row_at l.store.rows (get_or (bucket_of l.store l.x) q 0)));
  no_heavier : AreNoHeavier l.fn.ends l.all;
  limit : (cut : ℤ) → IsEndLimit cut l.fn.ends.best l.fn.ends.limit → IsEndLimit cut l.all.best l.all.limit;
  broad : IsBroad l.fn.ends.limit → IsBroad l.all.limit;
}
