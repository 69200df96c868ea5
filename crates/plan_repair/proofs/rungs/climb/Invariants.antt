use Rattle.std.proofs.Common.{◌-◌, ◌≤◌}
use Rattle.plan_repair.specs.inside.Rungs.{IsPricedAt, highest}
use Rattle.plan_repair.proofs.rungs.climb.Given as goal

-- the plan so far costs least with moves raised so far
abbrev pub invariant-rungs : goal.invariant-rungs
invariant-rungs l = record {
  best : IsPricedAt l.book l.homes l.raise l.best;
  low : 1 ≤ l.raise;
  high : l.raise ≤ highest l.book;
}

abbrev pub decreases-rungs : goal.decreases-rungs
decreases-rungs l = highest l.book - l.raise
