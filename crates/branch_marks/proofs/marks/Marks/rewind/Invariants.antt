use Rattle.std.proofs.Common.{◌≡◌, ◌≤◌, take}
use Rattle.tail_book.specs.Seen.{BookSeen}
use Rattle.branch_marks.specs.inside.MarkTables.{AreMarksOf}
use Rattle.branch_marks.proofs.marks.Marks.rewind.Given as goal

-- the first i facts are left
abbrev pub invariant-loop-i : goal.invariant-loop-i
invariant-loop-i l = record {
  above : l.mark ≤ l.i;
  facts : l.self.facts ≡ take l.i l.fn.self.facts;
  marks : (book : BookSeen) → AreMarksOf book l.fn.self → AreMarksOf book l.self;
  aircraft : l.self.aircraft ≡ l.fn.self.aircraft;
  activities : l.self.activities ≡ l.fn.self.activities;
}
