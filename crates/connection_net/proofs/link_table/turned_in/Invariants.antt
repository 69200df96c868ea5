use Rattle.std.proofs.Common.{◌≡◌, ℕ, pos}
use Rattle.std.specs.Prelude.{◌&&◌, nat_lt}
use Rattle.tail_book.specs.Lookup.{kind_of, type_turn}
use Rattle.tail_book.specs.Numbers.{int_le}
use Rattle.connection_net.specs.inside.AircraftSet.{has}
use Rattle.connection_net.proofs.link_table.turned_in.Given as goal

-- the set has those of the aircraft so far
abbrev pub invariant-loop-k : goal.invariant-loop-k
invariant-loop-k l = (i : ℕ) → has l.set i ≡ (nat_lt i l.k && int_le (type_turn l.book (kind_of l.book i)) (pos l.stop))
