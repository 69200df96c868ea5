use Rattle.std.proofs.Common.{◌<◌, ℕ, ℤ, get_or}
use Rattle.tail_book.specs.CostTable.{IsInBox}
use Rattle.small_books.proofs.duals.are_in_box.Given as goal

-- the duals before place a are in the box
abbrev pub invariant-loop-a : goal.invariant-loop-a
invariant-loop-a l = (q : ℕ) (d : ℤ) → q < l.a → IsInBox l.table (get_or l.duals q d)
