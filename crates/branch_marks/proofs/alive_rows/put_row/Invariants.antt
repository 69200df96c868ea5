use Rattle.std.specs.Prelude.{◌&&◌, ◌||◌, nat_eq, nat_lt}
use Rattle.tail_book.specs.LegalTests.{is_allowed}
use Rattle.branch_marks.specs.inside.BitRows.{AreChanged}
use Rattle.branch_marks.proofs.alive_rows.put_row.Given as goal

-- the aircraft so far are there where they may fly the activity
abbrev pub invariant-loop-k : goal.invariant-loop-k
invariant-loop-k l = AreChanged (λ c j had. had || (nat_eq l.a c && (nat_lt j l.k && is_allowed l.book j c))) l.fn.alive l.alive
