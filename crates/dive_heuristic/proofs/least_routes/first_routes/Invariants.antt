use Rattle.std.proofs.Common.{◌≡◌, ◌<◌, ℕ, length}
use Rattle.tail_book.specs.Plan.{route_of}
use Rattle.dive_heuristic.specs.LeastRoutes.{IsLeastRoute}
use Rattle.dive_heuristic.specs.Divers.{IsDiverFor}
use Rattle.dive_heuristic.proofs.least_routes.first_routes.Given as goal

-- the first aircraft have their routes
abbrev pub invariant-loop-k : goal.invariant-loop-k
invariant-loop-k l = record {
  count : length l.routes.items ≡ l.k;
  each : (j : ℕ) → j < l.k → IsLeastRoute l.table l.book l.marks.facts j l.duals.values (route_of l.routes.items j);
  diver : IsDiverFor l.book l.table l.marks.facts l.diver;
}
