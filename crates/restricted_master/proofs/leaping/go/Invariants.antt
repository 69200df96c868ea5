use Rattle.std.proofs.Common.{◌<◌, ℕ, pos, slice_index_or}
use Rattle.tail_book.specs.CostTable.{IsInBox}
use Rattle.restricted_master.proofs.leaping.go.Given as goal

-- the activities so far
abbrev pub invariant-loop-a : goal.invariant-loop-a
invariant-loop-a l = (a : ℕ) → a < l.a → IsInBox l.table (slice_index_or l.there a (pos 0))
