use Rattle.std.proofs.Common.{◌≡◌, ℕ}
use Rattle.std.specs.Prelude.{◌&&◌, nat_lt}
use Rattle.tail_book.specs.LegalTests.{is_allowed}
use Rattle.connection_net.specs.inside.AircraftSet.{has}
use Rattle.connection_net.proofs.link_table.fliers.Given as goal

-- the set has those of the aircraft so far
abbrev pub invariant-loop-k : goal.invariant-loop-k
invariant-loop-k l = (i : ℕ) → has l.set i ≡ (nat_lt i l.k && is_allowed l.book i l.a)
