use Rattle.branch_marks.specs.Settled.{AreDuals}
use Rattle.quota_node.proofs.shorts.lowered.Given as goal

-- the duals stay in the box
abbrev pub invariant-loop-comer : goal.invariant-loop-comer
invariant-loop-comer l = AreDuals l.table l.book l.low.values
