use Rattle.std.proofs.Common.{◌≡◌}
use Rattle.std.specs.Prelude.{nat_eq}
use Rattle.std.specs.List.{filter, range_with_len}
use Rattle.tail_book.specs.Lookup.{from_port}
use Rattle.connection_net.proofs.airports.put_departures.Given as goal

-- those of the activities so far
abbrev pub invariant-loop-b : goal.invariant-loop-b
invariant-loop-b l = l.row.items ≡ filter (λ b. nat_eq l.port (from_port l.book b)) (range_with_len 0 l.b)
