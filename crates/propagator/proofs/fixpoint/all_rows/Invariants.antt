use Rattle.std.specs.Prelude.{All}
use Rattle.std.proofs.Common.{◌≡◌, length}
use Rattle.floor_rows.specs.inside.FloorRow.{IsRowOf}
use Rattle.propagator.proofs.fixpoint.all_rows.Given as goal

-- each row has room for the book's floors
abbrev pub invariant-loop-k : goal.invariant-loop-k
invariant-loop-k l = (length l.rows.items ≡ l._k) × All (IsRowOf l.book) l.rows.items
