use Rattle.std.specs.Prelude.{IfSome}
use Rattle.branch_marks.specs.declared.fact.Pair.TheVariants.{Fly}
use Rattle.branch_marks.specs.Branches.{IsUndecided}
use Rattle.quota_node.proofs.free_pairs.free_flight.Given as goal

-- what was found so far is undecided
abbrev pub invariant-loop-k : goal.invariant-loop-k
invariant-loop-k l = IfSome l.least (λ flight. IsUndecided l.book l.marks.facts (Fly flight.0 flight.1))
