use Rattle.std.proofs.Common.{take}
use Rattle.branch_marks.specs.TreeEvents.{dual_events}
use Rattle.node_leaves.specs.inside.EventLists.{Lists}
use Rattle.node_leaves.proofs.node_events.list_duals.Given as goal

-- the duals before the next one are listed
abbrev pub invariant-loop-i : goal.invariant-loop-i
invariant-loop-i l = Lists l.initial.events.items l.events.items (dual_events 0 (take l.i l.duals))
