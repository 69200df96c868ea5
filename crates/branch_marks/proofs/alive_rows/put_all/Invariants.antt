use Rattle.std.specs.Prelude.{◌&&◌, ◌||◌, nat_lt}
use Rattle.tail_book.specs.LegalTests.{is_allowed}
use Rattle.branch_marks.specs.inside.BitRows.{AreChanged}
use Rattle.branch_marks.proofs.alive_rows.put_all.Given as goal

-- the activities so far have theirs
abbrev pub invariant-loop-a : goal.invariant-loop-a
invariant-loop-a l = AreChanged (λ c k had. had || (nat_lt c l.a && is_allowed l.book k c)) l.fn.alive l.alive
