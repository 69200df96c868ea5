use Rattle.std.proofs.Common.{◌≡◌, take}
use Rattle.std.specs.List.{filter}
use Rattle.connection_net.specs.Net.{is_linked}
use Rattle.connection_net.proofs.net.put_after.Given as goal

-- those of the numbers so far
abbrev pub invariant-loop-b : goal.invariant-loop-b
invariant-loop-b l = l.row.items ≡ filter (is_linked l.book l.a) (take l.b-index l.list)
