use Rattle.std.proofs.Common.{◌≡◌, map}
use Rattle.std.specs.List.{range_with_len}
use Rattle.connection_net.specs.inside.LinkTable.{arrivals_of}
use Rattle.connection_net.proofs.airports.arrivals.Given as goal

-- the rows of the airports so far
abbrev pub invariant-loop-port : goal.invariant-loop-port
invariant-loop-port l = l.rows ≡ map (arrivals_of l.book) (range_with_len 0 l.port)
