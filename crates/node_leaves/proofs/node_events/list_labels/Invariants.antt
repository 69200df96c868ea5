use Rattle.std.proofs.Common.{take, map}
use Rattle.std.specs.List.{concat}
use Rattle.pricing.specs.Rows.{label_of}
use Rattle.branch_marks.specs.TreeEvents.{label_events}
use Rattle.node_leaves.specs.inside.EventLists.{Lists}
use Rattle.node_leaves.proofs.node_events.list_labels.Given as goal

-- the buckets before the next one are listed
abbrev pub invariant-loop-a : goal.invariant-loop-a
invariant-loop-a l = Lists l.initial.events.items l.events.items (label_events (map (label_of l.store) (concat (take l.a l.store.buckets))))
