use Rattle.std.specs.Prelude.{All}
use Rattle.tail_book.specs.TableSeen.{DualsSeen}
use Rattle.branch_marks.specs.Settled.{AreDuals}
use Rattle.node_leaves.proofs.demands.demand_duals.Given as goal

-- each of the duals so far is in the box
abbrev pub invariant-loop-demand : goal.invariant-loop-demand
invariant-loop-demand l = All (λ (duals : DualsSeen). AreDuals l.table l.book duals.values) l.all.items
