use Rattle.std.proofs.Common.{◌≡◌, take, false}
use Rattle.std.specs.List.{list_any}
use Rattle.branch_marks.specs.inside.MarkTables.{is_tie}
use Rattle.branch_marks.proofs.marks.ties.Given as goal

-- none of the facts so far does
abbrev pub invariant-loop-i : goal.invariant-loop-i
invariant-loop-i l = list_any (is_tie l.a l.b) (take l.i l.facts) ≡ false
