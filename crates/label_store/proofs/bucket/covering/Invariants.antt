use Rattle.std.proofs.Common.{ℕ, ◌<◌, get_or}
use Rattle.tail_book.specs.CounterOrder.{EachAtMost}
use Rattle.label_store.specs.Buckets.{row_at}
use Rattle.label_store.proofs.bucket.covering.Given as goal

-- none of the rows that were looked at covers this one
abbrev pub invariant-loop-q : goal.invariant-loop-q
invariant-loop-q l = (p : ℕ) → p < l.q → ¬ EachAtMost (row_at l.rows.rows (get_or l.bucket p 0)) l.row
