use Rattle.std.proofs.Common.{◌<◌, ℕ, ℤ, get_or}
use Rattle.std.specs.Prelude.{IfSome}
use Rattle.label_store.specs.Buckets.{row_at}
use Rattle.label_store.specs.Store.{bucket_of}
use Rattle.pricing.specs.Rows.{weight_of}
use Rattle.pricing.specs.inside.Ends.{IsEnd, IsAtMost}
use Rattle.fee_pricing.proofs.end.least_at.Given as goal

-- it is an end, and no heavier than before or than the rows at places before i
abbrev pub invariant-loop-i : goal.invariant-loop-i
invariant-loop-i l = record {
  one : IfSome l.least (IsEnd l.book l.marks.facts l.k l.store);
  stays : (most : ℤ) → IsAtMost l.fn.best most → IsAtMost l.least most;
  here : (q : ℕ) → q < l.i → IsAtMost l.least (weight_of (row_at l.store.rows (get_or (bucket_of l.store l.b) q 0)));
}
