use Rattle.std.proofs.Common.{◌≡◌, ◌++◌, drop}
use Rattle.plan_picture.specs.Stops.{cleared_names}
use Rattle.plan_picture.proofs.stops.add_cleared.Given as goal

-- the names so far, and those of the counters that are left
abbrev pub invariant-loop-counter : goal.invariant-loop-counter
invariant-loop-counter l = l.initial.line ++ cleared_names l.book l.k l.from l.b l.book.rules.counters ≡ l.line ++ cleared_names l.book l.k l.from l.b (drop l.counter-index l.book.rules.counters)
