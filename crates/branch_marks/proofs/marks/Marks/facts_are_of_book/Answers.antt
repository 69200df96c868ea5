use Rattle.std.proofs.lemmas.List.Elements.{All-weaker}
use Rattle.branch_marks.specs.Facts.{IsFactOf}
use Rattle.branch_marks.specs.inside.MarkTables.{IsFactWithin}
use Rattle.branch_marks.proofs.FactTables.{of_book, within_marks}
use Rattle.branch_marks.proofs.marks.Marks.facts_are_of_book.Goals as goal

pub returns-clause-within : goal.returns-clause-within
returns-clause-within c = λ fact h. within_marks c.args.book.now c.args.self.now.aircraft c.args.self.now.activities fact c.requires.aircraft_are c.requires.activities_are h

pub returns-clause-known : goal.returns-clause-known
returns-clause-known c =
    let m = c.self.inside.aircraft in
    let n = c.self.inside.activities in
    let marks = rw (← c.self.view_is) at c.requires in
    rw (← c.self.view_is) (All-weaker (IsFactWithin m n) (IsFactOf c.args.book.now)
    (λ fact h. of_book c.args.book.now m n fact marks.aircraft_are marks.activities_are h) c.self.inside.facts c.self.invariant.facts)
