use Rattle.std.proofs.Common.{◌≡◌, map}
use Rattle.std.specs.List.{range_with_len}
use Rattle.connection_net.specs.inside.LinkTable.{departures_of}
use Rattle.connection_net.proofs.airports.departures.Given as goal

-- the rows of the airports so far
abbrev pub invariant-loop-port : goal.invariant-loop-port
invariant-loop-port l = l.rows ≡ map (departures_of l.book) (range_with_len 0 l.port)
