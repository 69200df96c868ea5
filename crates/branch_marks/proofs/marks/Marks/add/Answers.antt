use Rattle.std.proofs.Common.{◌≡◌, [], false, rules}
use Rattle.std.proofs.lemmas.List.Elements.{All-push}
use Rattle.branch_marks.specs.FactTests.{has_fact}
use Rattle.branch_marks.specs.inside.MarkTables.{IsFactWithin, is_bar, is_must, is_cut, tied_after, tied_before, given_to}
use Rattle.branch_marks.proofs.FactTables.{alive_more, facts_more, named_more, within_marks}
use Rattle.branch_marks.proofs.Undone.{once_more}
use Rattle.branch_marks.proofs.marks.Marks.add.Goals as goal

-- each table has noted the fact
pub invariant_of-self-2 : goal.invariant_of-self-2
invariant_of-self-2 c =
    let marks = rw (← c.self.view_is) at c.requires.marks in
    let kept = c.self.invariant in
    let m = c.self.inside.aircraft in
    let n = c.self.inside.activities in
    let facts = c.self.inside.facts in
    let new : has_fact facts c.args.fact ≡ false = search rules in
    rw c.in_ok-push.ensures.ok record {
      few_aircraft = kept.few_aircraft;
      few_activities = kept.few_activities;
      facts = All-push (IsFactWithin m n) facts c.args.fact kept.facts (within_marks c.args.book.now m n c.args.fact marks.aircraft_are marks.activities_are c.requires.fact);
      once = once_more [] facts c.args.fact kept.once new;
      allowed_rows = kept.allowed_rows;
      allowed_columns = kept.allowed_columns;
      alive = alive_more m n c.self.inside.allowed facts c.args.fact c.self.inside.alive c.note_alive.new.alive kept.alive c.note_alive.ensures;
      bars = facts_more m n is_bar facts c.args.fact c.self.inside.bars c.note_bar.new.bars kept.bars c.note_bar.ensures;
      musts = facts_more m n is_must facts c.args.fact c.self.inside.musts c.note_must.new.musts kept.musts c.note_must.ensures;
      cuts = facts_more n n is_cut facts c.args.fact c.self.inside.cuts c.note_cut.new.cuts kept.cuts c.note_cut.ensures;
      next = named_more n tied_after facts c.args.fact c.self.inside.next.items c.note_next.new.next.items kept.next c.note_next.ensures;
      previous = named_more n tied_before facts c.args.fact c.self.inside.previous.items c.note_previous.new.previous.items kept.previous c.note_previous.ensures;
      carriers = named_more n given_to facts c.args.fact c.self.inside.carriers.items c.note_carrier.new.carriers.items kept.carriers c.note_carrier.ensures;
    }

-- and who is alive is known with it
pub returns-clause-marks : goal.returns-clause-marks
returns-clause-marks c =
    let marks = rw (← c.self.view_is) at c.requires.marks in
    record {
      aircraft_are = marks.aircraft_are;
      activities_are = marks.activities_are;
      allowed = marks.allowed;
    }
