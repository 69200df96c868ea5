use Rattle.std.proofs.Common.{◌-◌}
use Rattle.tail_book.specs.Lookup.{aircraft}
use Rattle.floor_rows.specs.inside.AskedLinks.{AreAsked}
use Rattle.cert_checker.specs.inside.KeptFloors.{AreAllUnder}
use Rattle.cert_checker.proofs.node_tests.is_dead_connection.Given as goal

-- the aircraft below k are asked, and the floors that are kept are under the marks
abbrev pub invariant-loop-k : goal.invariant-loop-k
invariant-loop-k l = AreAsked l.book l.marks.facts l.a l.b l.k l.used × AreAllUnder l.book l.marks.facts l.kept.rows.items

abbrev pub decreases-loop-k : goal.decreases-loop-k
decreases-loop-k l = aircraft l.book - l.k
