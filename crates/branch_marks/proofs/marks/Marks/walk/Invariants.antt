use Rattle.std.proofs.Common.{◌≡◌, drop}
use Rattle.tail_book.specs.Place.{IsPlaceOf}
use Rattle.branch_marks.specs.MarkTests.{fits, fits_from}
use Rattle.branch_marks.proofs.marks.Marks.walk.Given as goal

-- what is left decides, from a place of the book
abbrev pub invariant-loop-b : goal.invariant-loop-b
invariant-loop-b l = record {
  decides : fits l.book l.self.facts l.k l.route ≡ fits_from l.book l.self.facts l.k l.from (drop l.b-index l.route);
  place : IsPlaceOf l.book l.from;
}
