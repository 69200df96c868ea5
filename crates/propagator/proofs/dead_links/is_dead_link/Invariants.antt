use Rattle.std.proofs.Common.{◌-◌}
use Rattle.tail_book.specs.Lookup.{aircraft}
use Rattle.floor_rows.specs.inside.AskedLinks.{AreAsked}
use Rattle.propagator.proofs.dead_links.is_dead_link.Given as goal

-- the aircraft below k are asked
abbrev pub invariant-loop-k : goal.invariant-loop-k
invariant-loop-k l = AreAsked l.book l.marks.facts l.a l.b l.k l.used

abbrev pub decreases-loop-k : goal.decreases-loop-k
decreases-loop-k l = aircraft l.book - l.k
