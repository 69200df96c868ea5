use Rattle.std.proofs.Common.{◌≡◌, take}
use Rattle.std.specs.List.{filter}
use Rattle.connection_net.specs.Net.{is_linked}
use Rattle.connection_net.proofs.net.put_before.Given as goal

-- those of the numbers so far
abbrev pub invariant-loop-a : goal.invariant-loop-a
invariant-loop-a l = l.row.items ≡ filter (λ a. is_linked l.book a l.b) (take l.a-index l.list)
