use Rattle.std.proofs.Common.{drop}
use Rattle.floor_rows.proofs.ComeOn.{IsOnTheWay}
use Rattle.floor_rows.proofs.floors.come_on.Given as goal

-- what is there, lowered to what the predecessors that are left bring, is the floor
abbrev pub invariant-loop-x : goal.invariant-loop-x
invariant-loop-x l = IsOnTheWay l.book l.marks.facts l.k l.b l.initial.row l.row (drop l.x-index l.x-items)
