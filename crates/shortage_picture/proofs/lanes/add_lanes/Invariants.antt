use Rattle.std.proofs.Common.{◌≡◌, ◌++◌, drop}
use Rattle.shortage_picture.specs.Lanes.{lanes_from}
use Rattle.shortage_picture.proofs.lanes.add_lanes.Given as goal

-- the lines so far, and those of the activities that are left
abbrev pub invariant-loop-i : goal.invariant-loop-i
invariant-loop-i l = l.initial.lines.items ++ lanes_from l.book l.side l.first l.width l.row 0 l.list
    ≡ l.lines.items ++ lanes_from l.book l.side l.first l.width l.row l.i (drop l.i l.list)
