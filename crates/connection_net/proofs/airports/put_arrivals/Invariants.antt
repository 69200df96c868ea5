use Rattle.std.proofs.Common.{◌≡◌}
use Rattle.std.specs.Prelude.{nat_eq}
use Rattle.std.specs.List.{filter, range_with_len}
use Rattle.tail_book.specs.Lookup.{to_port}
use Rattle.connection_net.proofs.airports.put_arrivals.Given as goal

-- those of the activities so far
abbrev pub invariant-loop-a : goal.invariant-loop-a
invariant-loop-a l = l.row.items ≡ filter (λ a. nat_eq l.port (to_port l.book a)) (range_with_len 0 l.a)
