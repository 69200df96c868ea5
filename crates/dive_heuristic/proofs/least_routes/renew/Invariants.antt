use Rattle.std.proofs.Common.{◌<◌, ℕ}
use Rattle.tail_book.specs.Plan.{route_of}
use Rattle.dive_heuristic.specs.LeastRoutes.{IsLeastRoute}
use Rattle.dive_heuristic.specs.Divers.{IsDiverFor}
use Rattle.dive_heuristic.specs.inside.Kept.{AreLowRoutes}
use Rattle.dive_heuristic.proofs.least_routes.renew.Given as goal

-- all routes are low, and those of the first aircraft fit
abbrev pub invariant-loop-k : goal.invariant-loop-k
invariant-loop-k l = record {
  low : AreLowRoutes l.table l.book l.marks.facts l.duals.values l.routes.items;
  each : (j : ℕ) → j < l.k → IsLeastRoute l.table l.book l.marks.facts j l.duals.values (route_of l.routes.items j);
  diver : IsDiverFor l.book l.table l.marks.facts l.diver;
}
