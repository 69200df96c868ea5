use Rattle.std.proofs.Common.{ℕ, ◌≡◌, ◌<◌}
use Rattle.floor_rows.specs.inside.FloorRow.{IsRowOf, floor_in}
use Rattle.floor_rows.specs.inside.LeastOver.{floor_of}
use Rattle.cert_checker.proofs.kept_floors.put_from.Given as goal

-- the floors below b are there
abbrev pub invariant-loop-b : goal.invariant-loop-b
invariant-loop-b l = IsRowOf l.book l.row × ((a : ℕ) → a < l.b → floor_in l.row a ≡ floor_of l.book l.marks.facts l.k a)
