-- The duals stay in the box, and what was learnt stays.
use Rattle.std.proofs.Common.{◌≡◌}
use Rattle.branch_marks.specs.Settled.{AreDuals}
use Rattle.dual_ascent.proofs.ascent.Ascent.leap.Given as goal

abbrev pub invariant-loop-turn : goal.invariant-loop-turn
invariant-loop-turn l = AreDuals l.table l.book l.duals.values × (l.self ≡ l.fn.self)
