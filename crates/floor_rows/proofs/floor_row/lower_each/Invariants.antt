use Rattle.std.proofs.Common.{◌≡◌, ◌++◌, length, take, drop}
use Rattle.branch_marks.specs.Floors.{lesser}
use Rattle.floor_rows.proofs.floor_row.lower_each.Given as goal

-- below c the lesser is there, and from c on it is still to be taken
abbrev pub invariant-loop-c : goal.invariant-loop-c
invariant-loop-c l =
    (lesser l.initial.part l.row ≡ take l.c l.part ++ lesser (drop l.c l.part) (drop l.c l.row)) × (length l.part ≡ length l.row)
