use Rattle.std.proofs.Common.{◌≡◌, map}
use Rattle.std.specs.List.{range_with_len}
use Rattle.connection_net.specs.Net.{successors_of}
use Rattle.connection_net.proofs.net.all_successors.Given as goal

-- the rows so far
abbrev pub invariant-loop-a : goal.invariant-loop-a
invariant-loop-a l = l.rows ≡ map (successors_of l.book) (range_with_len 0 l.a)
