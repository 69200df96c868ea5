use Rattle.std.proofs.Common.{◌≡◌, map}
use Rattle.std.specs.List.{range_with_len}
use Rattle.connection_net.specs.Net.{predecessors_of}
use Rattle.connection_net.proofs.net.all_predecessors.Given as goal

-- the rows so far
abbrev pub invariant-loop-b : goal.invariant-loop-b
invariant-loop-b l = l.rows ≡ map (predecessors_of l.book) (range_with_len 0 l.b)
