use Rattle.std.proofs.Common.{take}
use Rattle.node_leaves.specs.NodeEvents.{step_events}
use Rattle.node_leaves.specs.inside.EventLists.{Lists}
use Rattle.node_leaves.proofs.node_events.list_steps.Given as goal

-- the steps before the next one are listed
abbrev pub invariant-loop-i : goal.invariant-loop-i
invariant-loop-i l = Lists l.initial.events.items l.events.items (step_events (take l.i l.steps))
