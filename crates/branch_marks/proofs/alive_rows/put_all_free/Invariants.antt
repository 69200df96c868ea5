use Rattle.std.specs.Prelude.{◌&&◌, ◌||◌, nat_eq, nat_lt}
use Rattle.branch_marks.specs.inside.BitRows.{AreChanged}
use Rattle.branch_marks.specs.inside.MarkTables.{is_free}
use Rattle.branch_marks.proofs.alive_rows.put_all_free.Given as goal

-- the aircraft so far are there where they are free
abbrev pub invariant-loop-k : goal.invariant-loop-k
invariant-loop-k l = AreChanged (λ c j had. had || (nat_eq c l.a && (nat_lt j l.k && is_free l.allowed l.bars l.carriers c j))) l.fn.alive l.alive
