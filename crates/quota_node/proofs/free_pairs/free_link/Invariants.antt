use Rattle.std.specs.Prelude.{IfSome}
use Rattle.branch_marks.specs.declared.fact.Pair.TheVariants.{Link}
use Rattle.branch_marks.specs.Branches.{IsUndecided}
use Rattle.quota_node.proofs.free_pairs.free_link.Given as goal

-- what was found so far is undecided
abbrev pub invariant-loop-k : goal.invariant-loop-k
invariant-loop-k l = IfSome l.least (λ link. IsUndecided l.book l.marks.facts (Link link.0 link.1))
