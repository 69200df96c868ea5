use Rattle.pricing.specs.inside.Ends.{IsLeastEnd}
use Rattle.fee_pricing.proofs.end.least_end.Given as goal

-- it is the lightest at the carry-in and in the buckets before b
abbrev pub invariant-loop-b : goal.invariant-loop-b
invariant-loop-b l = IsLeastEnd l.book l.marks.facts l.k l.store l.b l.best
