use Rattle.std.proofs.Common.{◌≡◌, ◌≤◌, ◌+◌, length, take}
use Rattle.label_cells.proofs.cells.Cells.rewind.Given as goal

-- first rows are left, and the room of the others is spare
abbrev pub invariant-loop-self : goal.invariant-loop-self
invariant-loop-self l = record {
  rows : l.self.rows ≡ take (length l.self.rows) l.initial.self.rows;
  kept : l.n ≤ length l.self.rows;
  spare : l.self.spare + length l.self.rows ≡ l.initial.self.spare + length l.initial.self.rows;
  width : l.self.width ≡ l.initial.self.width;
}

abbrev pub decreases-loop-self : goal.decreases-loop-self
decreases-loop-self l = length l.self.rows
