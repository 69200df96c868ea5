use Rattle.std.proofs.Common.{◌≡◌, ◌+◌, drop, length}
use Rattle.plan_homes.specs.Moves.{moves, moves_of_routes}
use Rattle.plan_picture.proofs.moved.moved.Given as goal

-- the moves so far, and those of the routes that are left
abbrev pub invariant-loop-k : goal.invariant-loop-k
invariant-loop-k l = moves l.homes l.routes ≡ length l.list.items + moves_of_routes l.homes l.k (drop l.k l.routes)
