use Rattle.std.proofs.Common.{◌≡◌, ◌+◌, drop}
use Rattle.plan_homes.specs.Moves.{moves, moves_of_routes}
use Rattle.plan_repair.proofs.moved.moves_of_routes.Given as goal

-- the moves so far, and those of the routes that are left
abbrev pub invariant-loop-k : goal.invariant-loop-k
invariant-loop-k l = moves l.homes l.routes ≡ l.count + moves_of_routes l.homes l.k (drop l.k l.routes)
