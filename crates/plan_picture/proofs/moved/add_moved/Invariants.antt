use Rattle.std.proofs.Common.{◌≡◌, ◌+◌, drop, length}
use Rattle.plan_homes.specs.Moves.{moves_in}
use Rattle.plan_picture.proofs.moved.add_moved.Given as goal

-- the moves so far, and those of the activities that are left
abbrev pub invariant-loop-b : goal.invariant-loop-b
invariant-loop-b l = length l.initial.list.items + moves_in l.homes l.k l.route ≡ length l.list.items + moves_in l.homes l.k (drop l.b-index l.route)
