use Rattle.restricted_master.specs.inside.Leaps.{IsLeapRoom, Leaps}
use Rattle.restricted_master.specs.inside.Least.{IsWeighed}
use Rattle.restricted_master.proofs.leaping.Leap.go_on.Given as goal

-- the turns so far
abbrev pub invariant-loop-turn : goal.invariant-loop-turn
invariant-loop-turn l = record {
  weighed : IsWeighed l.table l.book l.pool l.lists l.duals l.weights l.values;
  room : IsLeapRoom l.book l.pool l.self;
  leaps : Leaps l.table l.book l.pool.entries l.initial.duals l.duals l.went;
}
