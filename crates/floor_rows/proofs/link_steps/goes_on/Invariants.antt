use Rattle.std.proofs.Common.{◌≡◌, ℤ, List, drop, Some}
use Rattle.std.specs.List.{list_any}
use Rattle.floor_rows.specs.inside.FloorRow.{floor_in}
use Rattle.floor_rows.specs.inside.Neighbours.{goes_on_from, goes_on_to}
use Rattle.floor_rows.proofs.link_steps.goes_on.Given as goal

-- the successors that are left decide
abbrev pub invariant-loop-b : goal.invariant-loop-b
invariant-loop-b l = (low : List ℤ) → floor_in l.row l.a ≡ Some low
    → goes_on_from l.book l.marks.facts l.k l.a low ≡ list_any (goes_on_to l.book l.marks.facts l.k l.a low) (drop l.b-index l.b-items)
